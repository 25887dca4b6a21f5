-- A set and a clear send exactly the orders that are due before any is sent, and each does to its element what an order does.
use Rattle.std.proofs.Common.{◌≡◌, ℕ, zero, suc, ◌<◌, ◌≤◌, Bool, true, false, cond, not, ltb, ◌&&◌, ◌≢◌, List, [], ◌∷◌, length, set, Some, None, Option, sym, refl, ap, ◌∙◌, subst, inl, ⊎_elim, arith}
use Rattle.std.proofs.lemmas.Bool.{cases_eq, cases_Bool, cond_both, cond-true, both_ways, and_parts, and_from, not-true, not_from_false}
use Rattle.std.proofs.lemmas.List.{length-set, take_all}
use Rattle.layout.specs.declared.position.Position.{Position}
use Rattle.layout.specs.declared.position.Position.TheVariants as position
use Rattle.walks.specs.Exactly.{In}
use Rattle.walks.proofs.Found.{in_left, in_right, in_either}
use Rattle.walks.proofs.Tables.{in_cond}
use Rattle.field.specs.declared.device.Device.{Device}
use Rattle.field.specs.Devices.{report_after}
use Rattle.field.specs.Meaning.{Meaning, Sized, device_of, report_of, blocked_of, burning_of, order_of, occupied_of, with_device, ordered}
use Rattle.field.proofs.OrdersLawful.{order_laws}
use Rattle.refusals.specs.declared.refusal.Refusal.{Refusal}
use Rattle.sheets.specs.declared.sheet.ElementSheet.{ElementSheet}
use Rattle.sheets.specs.declared.sheet.Sheets.{Sheets}
use Rattle.sheets.specs.Reading.{element_of, moves}
use Rattle.holds.specs.declared.interlocking.Interlocking.{Interlocking}
use Rattle.holds.specs.Positions.{reports}
use Rattle.holds.specs.Interlockings.{hold_of, held_by}
use Rattle.acts.specs.declared.act.Act.{Act}
use Rattle.acts.specs.declared.act.Act.TheVariants as act
use Rattle.acts.specs.declared.act.Event.{Event}
use Rattle.acts.specs.declared.act.Event.TheVariants as event
use Rattle.acts.specs.Situations.{Situation, opened}
use Rattle.acts.specs.Answers.{answer}
use Rattle.acts.specs.Acts.{told, after, unless, performed}
use Rattle.acts.specs.Orders.{section_free, due, sent, Order, order_to, orders}
use Rattle.runlaws.specs.SheetLaw.{run}
use Rattle.runlaws.proofs.Runs.{always, reports_true}

-- the tables of a field keep their lengths
device_sized : (m : Meaning) (e : ℕ) (d : Device) → Sized m → Sized (with_device m e d)
device_sized m e d sized =
    cond_both (ltb e 96) (record { devices = set m.devices e d; sections = m.sections }) m Sized
    (λ _. (length-set m.devices e d ∙ sized.0, sized.1))
    (λ _. sized)

told_sized : (m : Meaning) (v : Event) → Sized m → Sized (told m v)
told_sized m (event.Report e v) sized = device_sized m e _ sized
told_sized m (event.Block e v) sized = device_sized m e _ sized
told_sized m (event.Lamp e v) sized = device_sized m e _ sized
told_sized m (event.Occupation x v) sized =
    cond_both (ltb x 64) (record { devices = m.devices; sections = set m.sections x _ }) m Sized
    (λ _. (sized.0, length-set m.sections x _ ∙ sized.1))
    (λ _. sized)

-- when an order is due to an element, part by part
pub record DueAt (s : ElementSheet) (i : Interlocking) (r : ℕ) (m : Meaning) (e : ℕ) : Type 0 where
  pub moved : moves s.kind ≡ true
  pub held : held_by i r e ≡ true
  pub elsewhere : report_of m e ≢ Some (hold_of i e).position
  pub free : (x : ℕ) → s.section ≡ Some x → occupied_of m x ≡ false
  pub unblocked : blocked_of m e ≡ false

reports_self : (p : Position) → reports (Some p) p ≡ true
reports_self position.Plus = refl
reports_self position.Minus = refl

free_from : (m : Meaning) (o : Option ℕ) → ((x : ℕ) → o ≡ Some x → occupied_of m x ≡ false) → section_free m o ≡ true
free_from m None free = refl
free_from m (Some x) free = not_from_false (occupied_of m x) (free x refl)

module _ (s : ElementSheet) (i : Interlocking) (r : ℕ) (m : Meaning) (e : ℕ) where
  pub due_meant : due s i r m e ≡ true → DueAt s i r m e
  due_meant h =
      let p = (hold_of i e).position in
      let at = reports (report_of m e) p in
      let free = section_free m s.section in
      let unblocked = not (blocked_of m e) in
      let one = and_parts (moves s.kind) (held_by i r e && (not at && (free && unblocked))) h in
      let two = and_parts (held_by i r e) (not at && (free && unblocked)) one.1 in
      let three = and_parts (not at) (free && unblocked) two.1 in
      let four = and_parts free unblocked three.1 in
      record {
        moved = one.0;
        held = two.0;
        elsewhere = λ is. both_ways at (not-true at three.0) (ap (λ (o : Option Position). reports o p) is ∙ reports_self p);
        free = λ x is. not-true (occupied_of m x) (ap (section_free m) (sym is) ∙ four.0);
        unblocked = not-true (blocked_of m e) four.1;
      }

  pub due_told : DueAt s i r m e → due s i r m e ≡ true
  due_told h =
      let p = (hold_of i e).position in
      let at = reports (report_of m e) p in
      let free = section_free m s.section in
      let unblocked = not (blocked_of m e) in
      let away : at ≡ false
      = ⊎_elim (λ (y : at ≡ true). absurd (h.elsewhere (reports_true (report_of m e) p y))) (λ (f : at ≡ false). f) (cases_Bool at) in
      and_from (moves s.kind) (held_by i r e && (not at && (free && unblocked))) h.moved
      (and_from (held_by i r e) (not at && (free && unblocked)) h.held
      (and_from (not at) (free && unblocked) (not_from_false at away)
      (and_from free unblocked (free_from m s.section h.free) (not_from_false (blocked_of m e) h.unblocked))))

module _ (t : Sheets) (i : Interlocking) (r : ℕ) (m : Meaning) where
  sent_sized : (n : ℕ) → Sized m → Sized (sent t i r m n)
  unfolding sent
  sent_sized zero sized = sized
  sent_sized (suc n) sized =
      let before = sent t i r m n in
      let p = (hold_of i n).position in
      cond_both (due (element_of t n) i r before n) (ordered before n p) before Sized
      (λ _. device_sized before n _ (sent_sized n sized))
      (λ _. sent_sized n sized)

  -- what is known of an element stays until its turn, and what is known of a section stays
  device_before : (n e : ℕ) → n ≤ e → device_of (sent t i r m n) e ≡ device_of m e
  unfolding sent
  device_before zero e later = refl
  device_before (suc n) e later =
      let before = sent t i r m n in
      let p = (hold_of i n).position in
      let old : device_of before e ≡ device_of m e = device_before n e (omega arith) in
      cond_both (due (element_of t n) i r before n) (ordered before n p) before (λ (x : Meaning). device_of x e ≡ device_of m e)
      (λ _. (order_laws before n p).others e (λ at. omega (arith, at)) ∙ old)
      (λ _. old)

  pub section_kept : (n x : ℕ) → occupied_of (sent t i r m n) x ≡ occupied_of m x
  unfolding sent
  section_kept zero x = refl
  section_kept (suc n) x =
      let before = sent t i r m n in
      let p = (hold_of i n).position in
      cond_both (due (element_of t n) i r before n) (ordered before n p) before (λ (y : Meaning). occupied_of y x ≡ occupied_of m x)
      (λ _. (order_laws before n p).sections x ∙ section_kept n x)
      (λ _. section_kept n x)

  free_kept : (n : ℕ) (o : Option ℕ) → section_free (sent t i r m n) o ≡ section_free m o
  free_kept n None = refl
  free_kept n (Some x) = ap not (section_kept n x)

  -- so an order is due at an element's turn exactly if it is due before any is sent
  due_kept : (s : ElementSheet) (n : ℕ) → due s i r (sent t i r m n) n ≡ due s i r m n
  due_kept s n = λ k.
      moves s.kind
      && (held_by i r n
      && (not (reports (device_before n n (omega arith) k).report (hold_of i n).position)
      && (free_kept n s.section k && not (device_before n n (omega arith) k).blocked)))

  -- each order is due
  pub orders_due :
      (n : ℕ) (o : Order) → In o (orders t i r m n)
      → (due (element_of t o.element) i r m o.element ≡ true) × (o.position ≡ (hold_of i o.element).position)
  unfolding orders
  orders_due zero o h = absurd h
  orders_due (suc n) o h =
      let b = due (element_of t n) i r (sent t i r m n) n in
      ⊎_elim
      (λ (old : In o (orders t i r m n)). orders_due n o old)
      (λ (new : In o (cond b (order_to i n ∷ []) [])).
      let here = in_cond b (order_to i n) o new in
      subst (λ (x : Order). (due (element_of t x.element) i r m x.element ≡ true) × (x.position ≡ (hold_of i x.element).position)) here.1
      (sym (due_kept (element_of t n) n) ∙ here.0, refl))
      (in_either o (orders t i r m n) (cond b (order_to i n ∷ []) []) h)

  -- each order that is due is sent
  pub due_orders : (n e : ℕ) → e < n → due (element_of t e) i r m e ≡ true → In (order_to i e) (orders t i r m n)
  unfolding orders
  due_orders zero e below h = absurd (omega arith)
  due_orders (suc n) e below h =
      let b = due (element_of t n) i r (sent t i r m n) n in
      let last : (x : Bool) → x ≡ true → In (order_to i n) (cond x (order_to i n ∷ []) [])
      = λ x y. subst (λ (z : Bool). In (order_to i n) (cond z (order_to i n ∷ []) [])) (sym y) (inl refl) in
      ⊎_elim
      (λ (at : e ≡ n).
      in_right (order_to i e) (orders t i r m n) (cond b (order_to i n ∷ []) [])
      (subst (λ (x : ℕ). In (order_to i x) (cond b (order_to i n ∷ []) [])) (sym at)
      (last b (due_kept (element_of t n) n ∙ subst (λ (x : ℕ). due (element_of t x) i r m x ≡ true) at h))))
      (λ ne. in_left (order_to i e) (orders t i r m n) (cond b (order_to i n ∷ []) []) (due_orders n e (omega arith) h))
      (cases_eq e n)

  -- and does to its element what an order does
  pub order_done :
      Sized m → (n e : ℕ) → e < n → n ≤ 96 → due (element_of t e) i r m e ≡ true
      → (order_of (sent t i r m n) e ≡ Some (hold_of i e).position)
      × (report_of (sent t i r m n) e ≡ report_after (report_of m e) (hold_of i e).position)
  unfolding sent
  order_done sized zero e below few h = absurd (omega arith)
  order_done sized (suc n) e below few h =
      let before = sent t i r m n in
      let q = (hold_of i e).position in
      let done : Meaning → Type 0 = λ x. (order_of x e ≡ Some q) × (report_of x e ≡ report_after (report_of m e) q) in
      ⊎_elim
      (λ (at : e ≡ n).
      let b : due (element_of t n) i r before n ≡ true
      = due_kept (element_of t n) n ∙ subst (λ (x : ℕ). due (element_of t x) i r m x ≡ true) at h in
      let is = cond-true (due (element_of t n) i r before n) (ordered before n (hold_of i n).position) before b in
      let law = order_laws before e q in
      let same : report_of before e ≡ report_of m e = ap (λ (x : Device). x.report) (device_before n e (omega (arith, at))) in
      let turn : ordered before n (hold_of i n).position ≡ ordered before e q = ap (λ (x : ℕ). ordered before x (hold_of i x).position) (sym at) in
      subst done (sym (is ∙ turn))
      (law.stands (sent_sized n sized) (omega arith), law.gives_up (sent_sized n sized) (omega arith) ∙ ap (λ (x : Option Position). report_after x q) same))
      (λ ne.
      let old : done before = order_done sized n e (omega arith) (omega arith) h in
      let p = (hold_of i n).position in
      cond_both (due (element_of t n) i r before n) (ordered before n p) before done
      (λ _.
      let other : device_of (ordered before n p) e ≡ device_of before e = (order_laws before n p).others e ne in
      (ap (λ (x : Device). x.order) other ∙ old.0, ap (λ (x : Device). x.report) other ∙ old.1))
      (λ _. old))
      (cases_eq e n)

  -- what is known of an element to which no order is due stays
  pub undue_kept : (n e : ℕ) → due (element_of t e) i r m e ≡ false → device_of (sent t i r m n) e ≡ device_of m e
  unfolding sent
  undue_kept zero e h = refl
  undue_kept (suc n) e h =
      let before = sent t i r m n in
      let p = (hold_of i n).position in
      let b = due (element_of t n) i r before n in
      cond_both b (ordered before n p) before (λ (x : Meaning). device_of x e ≡ device_of m e)
      (λ y.
      ⊎_elim
      (λ (at : e ≡ n). absurd (both_ways b (due_kept (element_of t n) n ∙ subst (λ (x : ℕ). due (element_of t x) i r m x ≡ false) at h) y))
      (λ ne. (order_laws before n p).others e ne ∙ undue_kept n e h)
      (cases_eq e n))
      (λ _. undue_kept n e h)

  -- and so do all blocks and lamps
  pub blocks_kept : (n e : ℕ) → blocked_of (sent t i r m n) e ≡ blocked_of m e
  unfolding sent
  blocks_kept zero e = refl
  blocks_kept (suc n) e =
      let before = sent t i r m n in
      let p = (hold_of i n).position in
      cond_both (due (element_of t n) i r before n) (ordered before n p) before (λ (x : Meaning). blocked_of x e ≡ blocked_of m e)
      (λ _. (order_laws before n p).blocks e ∙ blocks_kept n e)
      (λ _. blocks_kept n e)

  pub lamps_kept : (n e : ℕ) → burning_of (sent t i r m n) e ≡ burning_of m e
  unfolding sent
  lamps_kept zero e = refl
  lamps_kept (suc n) e =
      let before = sent t i r m n in
      let p = (hold_of i n).position in
      cond_both (due (element_of t n) i r before n) (ordered before n p) before (λ (x : Meaning). burning_of x e ≡ burning_of m e)
      (λ _. (order_laws before n p).lamps e ∙ lamps_kept n e)
      (λ _. lamps_kept n e)

module _ (t : Sheets) where
  after_sized : (s : Situation) (a : Act) → Sized s.meant → Sized (after t s a).meant
  after_sized s (act.Set r) sized = sent_sized t _ r s.meant 96 sized
  after_sized s (act.Clear r) sized = sent_sized t _ r s.meant 96 sized
  after_sized s (act.Release r) sized = sized
  after_sized s (act.Tell v) sized = told_sized s.meant v sized

  sized_unless : (s : Situation) (a : Act) (o : Option Refusal) → Sized s.meant → Sized (unless o t s (after t s a)).meant
  sized_unless s a None sized = after_sized s a sized
  sized_unless s a (Some x) sized = sized

  -- at the end of every run
  pub end_sized : (m : Meaning) (acts : List Act) → Sized m → Sized (run t m acts).meant
  end_sized m acts sized =
      subst (λ (xs : List Act). Sized (run t m xs).meant) (take_all (length acts) acts (omega arith))
      (always (λ (s : Situation). Sized s.meant) (performed t) (λ s a before. sized_unless s a (answer t s a) before) acts
      (opened m) sized (length acts))
