-- Which orders an act sends, and what becomes of the standing orders.
use Rattle.std.proofs.Common.{◌≡◌, ℕ, zero, suc, Bool, true, false, cond, ltb, ◌≢◌, ◌⊎◌, [], ◌∷◌, get_or, set, Some, sym, refl, ap, ◌∙◌, subst, inl, inr, ⊎_elim}
use Rattle.std.proofs.lemmas.Bool.{cases_eq, cases_Bool, cond_both, cond-true, cond-false}
use Rattle.layout.specs.declared.position.Position.{Position}
use Rattle.walks.specs.Exactly.{In}
use Rattle.walks.proofs.Found.{in_left, in_right, in_either}
use Rattle.walks.proofs.Tables.{in_cond}
use Rattle.field.specs.declared.device.Device.{Device}
use Rattle.field.specs.Devices.{blank, unknown, device_ordered}
use Rattle.field.specs.Meaning.{Meaning, with_device, ordered, order_of}
use Rattle.sheets.specs.declared.sheet.Sheets.{Sheets}
use Rattle.sheets.specs.Reading.{element_of}
use Rattle.holds.specs.declared.interlocking.Interlocking.{Interlocking}
use Rattle.holds.specs.Interlockings.{hold_of}
use Rattle.acts.specs.declared.act.Event.{Event}
use Rattle.acts.specs.declared.act.Event.TheVariants as event
use Rattle.acts.specs.Orders.{due, sent, Order, order_to, orders}
use Rattle.acts.specs.Acts.{told}
use Rattle.runlaws.proofs.Lists.{set_case}

-- each order is to the position in which its element is held
pub orders_held : (t : Sheets) (i : Interlocking) (r : ℕ) (m : Meaning) (n : ℕ) (o : Order) → In o (orders t i r m n) → o.position ≡ (hold_of i o.element).position
unfolding orders
orders_held t i r m zero o h = absurd h
orders_held t i r m (suc n) o h =
    let b = due (element_of t n) i r (sent t i r m n) n in
    ⊎_elim
    (λ (old : In o (orders t i r m n)). orders_held t i r m n o old)
    (λ (new : In o (cond b (order_to i n ∷ []) [])). subst (λ (x : Order). x.position ≡ (hold_of i x.element).position) (in_cond b (order_to i n) o new).1 refl)
    (in_either o (orders t i r m n) (cond b (order_to i n ∷ []) []) h)

order_from : (b : Bool) (d f : Device) → d.order ≡ f.order → (cond b d unknown).order ≡ (cond b f unknown).order
order_from true d f e = e
order_from false d f e = refl

order_other : (m : Meaning) (k : ℕ) (d : Device) (e : ℕ) → e ≢ k → order_of (with_device m k d) e ≡ order_of m e
order_other m k d e ne =
    order_from (ltb e 96) (get_or (with_device m k d).devices e blank) (get_or m.devices e blank)
    (cond_both (ltb k 96) (record { devices = set m.devices k d; sections = m.sections }) m (λ (x : Meaning). (get_or x.devices e blank).order ≡ (get_or m.devices e blank).order)
    (λ _. ap (λ (x : Device). x.order) (set_other_device m k d e ne)) (λ _. refl))
  where
    set_other_device : (m : Meaning) (k : ℕ) (d : Device) (e : ℕ) → e ≢ k → get_or (set m.devices k d) e blank ≡ get_or m.devices e blank
    set_other_device m k d e ne =
        ⊎_elim (λ (o : get_or (set m.devices k d) e blank ≡ get_or m.devices e blank). o) (λ (o : (e ≡ k) × (get_or (set m.devices k d) e blank ≡ d)). absurd (ne o.0))
        (set_case m.devices k d blank e)

-- where no order goes, the standing order stays
pub order_stays : (t : Sheets) (i : Interlocking) (r : ℕ) (m : Meaning) (n e : ℕ) → ((q : Position) → In (record { element = e; position = q }) (orders t i r m n) → ⊥) → order_of (sent t i r m n) e ≡ order_of m e
unfolding orders sent
order_stays t i r m zero e none = refl
order_stays t i r m (suc n) e none =
    let before = sent t i r m n in
    let b = due (element_of t n) i r before n in
    let p = (hold_of i n).position in
    let old : order_of before e ≡ order_of m e = order_stays t i r m n e (λ q h. none q (in_left _ (orders t i r m n) (cond b (order_to i n ∷ []) []) h)) in
    ⊎_elim
    (λ (y : b ≡ true).
    ap (λ (x : Meaning). order_of x e) (cond-true b (ordered before n p) before y) ∙
    (order_other before n (device_ordered (get_or before.devices n blank) p) e
    (λ (at : e ≡ n).
    none p
    (in_right (record { element = e; position = p }) (orders t i r m n) (cond b (order_to i n ∷ []) [])
    (subst (λ v. In (record { element = e; position = p }) (cond v (order_to i n ∷ []) [])) (sym y) (inl (λ k. record { element = sym at k; position = p }))))) ∙ old))
    (λ (f : b ≡ false). ap (λ (x : Meaning). order_of x e) (cond-false b (ordered before n p) before f) ∙ old)
    (cases_Bool b)

order_now : (m : Meaning) (k : ℕ) (p : Position) (e : ℕ) → (order_of (ordered m k p) e ≡ order_of m e) ⊎ ((e ≡ k) × (order_of (ordered m k p) e ≡ Some p))
order_now m k p e =
    let d = device_ordered (get_or m.devices k blank) p in
    ⊎_elim
    (λ (at : e ≡ k). by_range m k p e at (ltb e 96) refl)
    (λ ne. inl (order_other m k d e ne))
    (cases_eq e k)
  where
    by_place : (m : Meaning) (k : ℕ) (p : Position) (e : ℕ) → e ≡ k →
        ((get_or (ordered m k p).devices e blank).order ≡ (get_or m.devices e blank).order) ⊎ ((get_or (ordered m k p).devices e blank).order ≡ Some p)
    by_place m k p e at =
        let d = device_ordered (get_or m.devices k blank) p in
        cond_both (ltb k 96) (record { devices = set m.devices k d; sections = m.sections }) m
        (λ (x : Meaning). ((get_or x.devices e blank).order ≡ (get_or m.devices e blank).order) ⊎ ((get_or x.devices e blank).order ≡ Some p))
        (λ _.
        ⊎_elim
        (λ (o : get_or (set m.devices k d) e blank ≡ get_or m.devices e blank). inl (ap (λ (x : Device). x.order) o))
        (λ (o : (e ≡ k) × (get_or (set m.devices k d) e blank ≡ d)). inr (ap (λ (x : Device). x.order) o.1))
        (set_case m.devices k d blank e))
        (λ _. inl refl)

    by_range : (m : Meaning) (k : ℕ) (p : Position) (e : ℕ) → e ≡ k → (b : Bool) → ltb e 96 ≡ b →
        (order_of (ordered m k p) e ≡ order_of m e) ⊎ ((e ≡ k) × (order_of (ordered m k p) e ≡ Some p))
    by_range m k p e at true t =
        ⊎_elim
        (λ (o : (get_or (ordered m k p).devices e blank).order ≡ (get_or m.devices e blank).order).
        inl (order_from (ltb e 96) (get_or (ordered m k p).devices e blank) (get_or m.devices e blank) o))
        (λ (o : (get_or (ordered m k p).devices e blank).order ≡ Some p).
        inr (at, ap (λ b. (cond b (get_or (ordered m k p).devices e blank) unknown).order) t ∙ o))
        (by_place m k p e at)
    by_range m k p e at false f =
        inl (ap (λ b. (cond b (get_or (ordered m k p).devices e blank) unknown).order) f ∙ sym (ap (λ b. (cond b (get_or m.devices e blank) unknown).order) f))

-- a standing order stays, or becomes the position in which its element is held
pub order_held : (t : Sheets) (i : Interlocking) (r : ℕ) (m : Meaning) (n e : ℕ) → (order_of (sent t i r m n) e ≡ order_of m e) ⊎ (order_of (sent t i r m n) e ≡ Some (hold_of i e).position)
unfolding sent
order_held t i r m zero e = inl refl
order_held t i r m (suc n) e =
    let before = sent t i r m n in
    let p = (hold_of i n).position in
    cond_both (due (element_of t n) i r before n) (ordered before n p) before (λ (x : Meaning). (order_of x e ≡ order_of m e) ⊎ (order_of x e ≡ Some (hold_of i e).position))
    (λ _.
    ⊎_elim
    (λ (o : order_of (ordered before n p) e ≡ order_of before e).
    ⊎_elim
    (λ (old : order_of before e ≡ order_of m e). inl (o ∙ old))
    (λ (old : order_of before e ≡ Some (hold_of i e).position). inr (o ∙ old))
    (order_held t i r m n e))
    (λ (o : (e ≡ n) × (order_of (ordered before n p) e ≡ Some p)). inr (o.1 ∙ ap (λ x. Some (hold_of i x).position) (sym o.0)))
    (order_now before n p e))
    (λ _. order_held t i r m n e)

order_kept : (m : Meaning) (k : ℕ) (d : Device) → d.order ≡ (get_or m.devices k blank).order → (e : ℕ) → order_of (with_device m k d) e ≡ order_of m e
order_kept m k d same e =
    order_from (ltb e 96) (get_or (with_device m k d).devices e blank) (get_or m.devices e blank)
    (cond_both (ltb k 96) (record { devices = set m.devices k d; sections = m.sections }) m (λ (x : Meaning). (get_or x.devices e blank).order ≡ (get_or m.devices e blank).order)
    (λ _.
    ⊎_elim
    (λ (o : get_or (set m.devices k d) e blank ≡ get_or m.devices e blank). ap (λ (x : Device). x.order) o)
    (λ (o : (e ≡ k) × (get_or (set m.devices k d) e blank ≡ d)). ap (λ (x : Device). x.order) o.1 ∙ (same ∙ ap (λ x. (get_or m.devices x blank).order) (sym o.0)))
    (set_case m.devices k d blank e))
    (λ _. refl))

-- no event changes a standing order
pub told_order : (m : Meaning) (v : Event) (e : ℕ) → order_of (told m v) e ≡ order_of m e
told_order m (event.Report k v) e = order_kept m k _ refl e
told_order m (event.Block k v) e = order_kept m k _ refl e
told_order m (event.Lamp k v) e = order_kept m k _ refl e
told_order m (event.Occupation s v) e =
    order_from (ltb e 96) (get_or (told m (event.Occupation s v)).devices e blank) (get_or m.devices e blank)
    (cond_both (ltb s 64) (record { devices = m.devices; sections = set m.sections s _ }) m (λ (x : Meaning). (get_or x.devices e blank).order ≡ (get_or m.devices e blank).order) (λ _. refl) (λ _. refl))
