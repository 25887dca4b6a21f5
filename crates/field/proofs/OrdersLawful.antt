-- The laws of orders hold of every meaning.
use Rattle.std.proofs.Common.{◌≡◌, ℕ, ◌<◌, ◌≤◌, Bool, cond, ltb, ◌≢◌, List, length, get_or, set, Some, None, Option, sym, refl, ap, ◌∙◌, inl, inr, arith}
use Rattle.std.proofs.lemmas.List.{length-set, get_or-set_same, get_or-set_other, set-set, set_comm, set_past}
use Rattle.std.proofs.lemmas.Bool.{lt-ltb, le-ltb, cases_eq, cases_lt}
use Rattle.layout.specs.declared.position.Position.{Position}
use Rattle.layout.specs.declared.position.Position.TheVariants as position
use Rattle.field.specs.declared.device.Device.{Device}
use Rattle.field.specs.Devices.{unknown, blank, report_after, device_ordered}
use Rattle.field.specs.Meaning.{Meaning, Sized, device_of, occupied_of, ordered}
use Rattle.field.specs.Orders.{OrderLaws}

report_after_again : (r : Option Position) (p : Position) → report_after (report_after r p) p ≡ report_after r p
report_after_again None p = refl
report_after_again (Some position.Plus) position.Plus = refl
report_after_again (Some position.Plus) position.Minus = refl
report_after_again (Some position.Minus) position.Plus = refl
report_after_again (Some position.Minus) position.Minus = refl

device_again : (d : Device) (p : Position) → device_ordered (device_ordered d p) p ≡ device_ordered d p
device_again d p =
    ap (λ r. record { report = r; blocked = d.blocked; burning = d.burning; order = Some p }) (report_after_again d.report p)

-- the devices after an order
abbrev after : List Device → ℕ → Position → List Device
after ds e p = set ds e (device_ordered (get_or ds e blank) p)

abbrev meant : List Device → List Bool → Meaning
meant ds ss = record { devices = ds; sections = ss }

ordered_within : (m : Meaning) (e : ℕ) (p : Position) → e < 96 → ordered m e p ≡ meant (after m.devices e p) m.sections
ordered_within m e p h = rw (lt-ltb e 96 h)

ordered_nobody : (m : Meaning) (e : ℕ) (p : Position) → 96 ≤ e → ordered m e p ≡ m
ordered_nobody m e p h = rw (le-ltb e 96 h)

after_again : (ds : List Device) (e : ℕ) (p : Position) → after (after ds e p) e p ≡ after ds e p
after_again ds e p =
    let d = device_ordered (get_or ds e blank) p in
    elim (cases_lt e (length ds)) [
      | inl within ↦
          set-set ds e d (device_ordered (get_or (set ds e d) e blank) p) ∙
          ap (set ds e) (ap (λ x. device_ordered x p) (get_or-set_same ds e d blank within) ∙ device_again (get_or ds e blank) p)
      | inr past ↦ set_past (set ds e d) e (device_ordered (get_or (set ds e d) e blank) p) (rw (length-set ds e d) past)
    ]

after_trades : (ds : List Device) (e f : ℕ) (p q : Position) → e ≢ f → after (after ds e p) f q ≡ after (after ds f q) e p
after_trades ds e f p q apart =
    let d = device_ordered (get_or ds e blank) p in
    let g = device_ordered (get_or ds f blank) q in
    ap (λ x. set (set ds e d) f (device_ordered x q)) (get_or-set_other ds e f d blank (λ s. apart (sym s))) ∙
    (set_comm ds e f d g apart ∙ sym (ap (λ x. set (set ds f g) e (device_ordered x p)) (get_or-set_other ds f e g blank apart)))

again : (m : Meaning) (e : ℕ) (p : Position) → ordered (ordered m e p) e p ≡ ordered m e p
again m e p = elim (cases_lt e 96) [
  | inl h ↦ rw (lt-ltb e 96 h) (ap (λ ds. meant ds m.sections) (after_again m.devices e p))
  | inr h ↦ ordered_nobody (ordered m e p) e p h
]

trades : (m : Meaning) (e : ℕ) (p : Position) (f : ℕ) (q : Position) → e ≢ f → ordered (ordered m e p) f q ≡ ordered (ordered m f q) e p
trades m e p f q apart = elim (cases_lt e 96) [
  | inl h ↦ elim (cases_lt f 96) [
    | inl i ↦ rw (lt-ltb e 96 h, lt-ltb f 96 i) (ap (λ ds. meant ds m.sections) (after_trades m.devices e f p q apart))
    | inr i ↦ ordered_nobody (ordered m e p) f q i ∙ ap (λ n. ordered n e p) (sym (ordered_nobody m f q i))
  ]
  | inr h ↦ ap (λ n. ordered n f q) (ordered_nobody m e p h) ∙ sym (ordered_nobody (ordered m f q) e p h)
]

others : (m : Meaning) (e : ℕ) (p : Position) (f : ℕ) → f ≢ e → device_of (ordered m e p) f ≡ device_of m f
others m e p f apart = elim (cases_lt e 96) [
  | inl h ↦
      ap (λ n. device_of n f) (ordered_within m e p h) ∙
      ap (λ d. cond (ltb f 96) d unknown) (get_or-set_other m.devices e f (device_ordered (get_or m.devices e blank) p) blank apart)
  | inr h ↦ ap (λ n. device_of n f) (ordered_nobody m e p h)
]

-- a part of a device that no order changes is kept in the table
kept_here :
    (ds : List Device) (e : ℕ) (p : Position) (part : Device → Bool) →
    ((d : Device) → part (device_ordered d p) ≡ part d) → part (get_or (after ds e p) e blank) ≡ part (get_or ds e blank)
kept_here ds e p part stays =
    let d = device_ordered (get_or ds e blank) p in
    elim (cases_lt e (length ds)) [
      | inl within ↦ ap part (get_or-set_same ds e d blank within) ∙ stays (get_or ds e blank)
      | inr past ↦ ap (λ l. part (get_or l e blank)) (set_past ds e d past)
    ]

-- and so in the answers for every element
kept :
    (m : Meaning) (e : ℕ) (p : Position) (part : Device → Bool) →
    ((d : Device) → part (device_ordered d p) ≡ part d) → (f : ℕ) → part (device_of (ordered m e p) f) ≡ part (device_of m f)
kept m e p part stays f = elim (cases_eq f e) [
  | inl same ↦ elim (cases_lt e 96) [
    | inl h ↦ rw (same, lt-ltb e 96 h) (kept_here m.devices e p part stays)
    | inr h ↦ ap (λ n. part (device_of n f)) (ordered_nobody m e p h)
  ]
  | inr apart ↦ ap part (others m e p f apart)
]

sections : (m : Meaning) (e : ℕ) (p : Position) (s : ℕ) → occupied_of (ordered m e p) s ≡ occupied_of m s
sections m e p s = elim (cases_lt e 96) [
  | inl h ↦ ap (λ n. occupied_of n s) (ordered_within m e p h)
  | inr h ↦ ap (λ n. occupied_of n s) (ordered_nobody m e p h)
]

-- the device that an order leaves
here : (m : Meaning) (e : ℕ) (p : Position) → Sized m → e < 96 → device_of (ordered m e p) e ≡ device_ordered (device_of m e) p
here m e p sized h =
    rw (lt-ltb e 96 h) (get_or-set_same m.devices e (device_ordered (get_or m.devices e blank) p) blank (omega (arith, sized.0)))

pub order_laws : OrderLaws
order_laws m e p = record {
  stands = λ sized h. ap (λ (d : Device). d.order) (here m e p sized h);
  gives_up = λ sized h. ap (λ (d : Device). d.report) (here m e p sized h);
  again = again m e p;
  trades = trades m e p;
  others = others m e p;
  blocks = kept m e p (λ d. d.blocked) (λ _. refl);
  lamps = kept m e p (λ d. d.burning) (λ _. refl);
  sections = sections m e p;
  nobody = ordered_nobody m e p;
}
