-- The bytes of a file draw at least one element.
use Rattle.std.proofs.Common.{◌≡◌, ℕ, zero, suc, ◌<◌, ◌≤◌, min, Bool, true, false, cond, ◌&&◌, leb, List, [], ◌∷◌, length, None, Ok, Err, Result, sym, refl, ap, subst, inl, inr, arith, length-set}
use lib.ListN.{length-replicate}
use Rattle.std.proofs.lemmas.List.{length-take}
use Rattle.std.proofs.lemmas.Bool.{and_parts, and_from, cases_lt, cond-true, cond-false, lt-ltb, le-ltb, leb-true}
use Rattle.std.specs.Option.{is_none}
use Rattle.bounded.specs.declared.bounded.Bounded.{Bounded}
use Rattle.bounded.specs.Lists.{listed, blanks, pushed}
use Rattle.faults.specs.declared.fault.Fault.{Fault}
use Rattle.faults.specs.declared.fault.Cause.TheVariants as cause
use Rattle.layout.specs.declared.drawing.Drawing.{Drawing}
use Rattle.layout.specs.declared.element.Element.{Element}
use Rattle.layout.specs.Drawings.{no_drawing, no_element}
use Rattle.planbytes.specs.Bytes.{Bytes, Reading, Read, fault, and_then, times, byte_at, byte_in, left_over}
use Rattle.planbytes.specs.Items.{item_step, items_at}
use Rattle.planbytes.specs.Fields.{element_at, route_at}
use Rattle.planbytes.specs.Files.{unless, drawn_by}
use Rattle.plan.specs.Checks.{drawing_fault}
use Rattle.plan.specs.Plans.{is_sound}

-- what answers a value after a read had a value read
pub record ReadThen {X Y : Type 0} (r : Reading X) (f : X → Bytes → Result Y Fault) (y : Y) : Type 0 where
  pub value : X × Bytes
  pub read : r ≡ Ok value
  pub after : f value.0 value.1 ≡ Ok y

read_then : {X Y : Type 0} (r : Reading X) (f : X → Bytes → Result Y Fault) (y : Y) → and_then r f ≡ Ok y → ReadThen r f y
read_then (Ok v) f y e = record { value = v; read = refl; after = e }
read_then (Err x) f y e = cc

-- a byte that is read in a range is not below it
low_byte : (low high : ℕ) (bs : Bytes) (v : ℕ × Bytes) → byte_in low high bs ≡ Ok v → low ≤ v.0
low_byte low high bs v e =
    let r = read_then (byte_at bs) (λ b cs. cond (leb low b && leb b high) (Ok (b, cs)) (Err (fault cause.OutOfRange bs.1))) v e in
    go r.value (leb low r.value.0 && leb r.value.0 high) refl r.after
  where
    go : (w : ℕ × Bytes) (b : Bool) → (leb low w.0 && leb w.0 high) ≡ b
        → cond b (Ok (w.0, w.1)) (Err (fault cause.OutOfRange bs.1)) ≡ Ok v → low ≤ v.0
    go w true t a =
        let same : w.0 ≡ v.0 = ap (λ (r : Reading ℕ). number r) a in
        subst (λ n. low ≤ n) same (leb-true low w.0 (and_parts _ _ t).0)
      where
        number : Reading ℕ → ℕ
        number (Ok x) = x.0
        number (Err x) = 0
    go w false t a = cc

-- a list that holds something
module _ {X : Type 0} {N : ℕ} (room : 0 < N) where
  abbrev Holds : Bounded X N → Type 0
  Holds b = (0 < b.count) × (0 < length b.places)

  pushed_holds : (b : Bounded X N) (x : X) → 0 < length b.places → Holds (pushed b x)
  pushed_holds b x l = elim (cases_lt b.count N) [
    | inl low ↦ subst Holds (sym (cond-true _ _ _ (lt-ltb b.count N low))) (omega arith, omega (arith, length-set b.places b.count x))
    | inr high ↦ subst Holds (sym (cond-false _ _ _ (le-ltb b.count N high))) (omega arith, l)
  ]

  listed_some : (b : Bounded X N) → Holds b → 0 < length (listed b)
  listed_some b h = omega (arith, h.0, h.1, room, length-take (min b.count N) b.places)

  -- what a step leaves, and what all steps leave
  step_holds : (read : Read X) (b : Bounded X N) (bs : Bytes) (w : Bounded X N × Bytes) → 0 < length b.places → item_step read b bs ≡ Ok w → Holds w.0
  step_holds read b bs w l e =
      let r = read_then (read bs) (λ x cs. Ok (pushed b x, cs)) w e in
      let same : (pushed b r.value.0, r.value.1) ≡ w = cc (r.after) in
      subst Holds (ap (λ (p : Bounded X N × Bytes). p.0) same) (pushed_holds b r.value.0 l)

  steps_hold : (read : Read X) (n : ℕ) (b : Bounded X N) (bs : Bytes) (w : Bounded X N × Bytes) → Holds b → times n (item_step read) b bs ≡ Ok w → Holds w.0
  steps_hold read zero b bs w h e =
      let same : (b, bs) ≡ w = cc (e) in
      subst Holds (ap (λ (p : Bounded X N × Bytes). p.0) same) h
  steps_hold read (suc n) b bs w h e =
      let r = read_then (item_step read b bs) (times n (item_step read)) w e in
      steps_hold read n r.value.0 r.value.1 w (step_holds read b bs r.value h.1 r.read) r.after

  items_hold : (read : Read X) (n : ℕ) (b : Bounded X N) (bs : Bytes) (w : Bounded X N × Bytes) → 0 < n → 0 < length b.places → items_at read n b bs ≡ Ok w → Holds w.0
  items_hold read zero b bs w some l e = absurd (omega arith)
  items_hold read (suc n) b bs w some l e =
      let r = read_then (item_step read b bs) (times n (item_step read)) w e in
      steps_hold read n r.value.0 r.value.1 w (step_holds read b bs r.value l r.read) r.after

drawn_elements : (drawn d : Drawing) (left : Bytes) → unless (left_over left) (Ok drawn) ≡ Ok d → drawn.elements ≡ d.elements
drawn_elements drawn d ([], o) e = let same : drawn ≡ d = cc in ap (λ (x : Drawing). x.elements) same
drawn_elements drawn d (b ∷ bs, o) e = cc

pub drawn_some : (bs : List ℕ) (d : Drawing) → drawn_by bs ≡ Ok d → 0 < length (listed d.elements)
unfolding blanks
drawn_some bs d e =
    let a = read_then (byte_in 1 96 (bs, 0)) _ d e in
    let b = read_then (byte_in 0 64 a.value.1) _ d a.after in
    let c = read_then (items_at element_at a.value.0 no_drawing.elements b.value.1) _ d b.after in
    let f = read_then (items_at route_at b.value.0 no_drawing.routes c.value.1) _ d c.after in
    let some : 0 < a.value.0 = low_byte 1 96 (bs, 0) a.value a.read in
    let holds = items_hold (omega arith) element_at a.value.0 no_drawing.elements b.value.1 c.value some (omega (arith, length-replicate 96 no_element)) c.read in
    subst (λ (x : Bounded Element 96). 0 < length (listed x)) (drawn_elements (record { elements = c.value.0; routes = f.value.0 }) d f.value.1 f.after) (listed_some (omega arith) c.value.0 holds)

-- what a file draws passes exactly if no check finds a fault
pub drawn_passes : (bs : List ℕ) (d : Drawing) → drawn_by bs ≡ Ok d → drawing_fault d ≡ None → is_sound d ≡ true
unfolding is_sound
drawn_passes bs d e n = and_from _ _ (lt-ltb 0 (length (listed d.elements)) (drawn_some bs d e)) (ap is_none n)
