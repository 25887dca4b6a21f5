-- The start, a turn and the end of the loops over ways, signals and flanks.
use Rattle.std.proofs.Common.{◌≡◌, ℕ, zero, suc, ◌+◌, ◌-◌, ◌<◌, Bool, true, false, List, [], ◌∷◌, length, None, refl, ap, ◌∙◌, add-one, arith}
use Rattle.layout.specs.declared.element.Element.{Element}
use Rattle.layout.specs.declared.element.Join.{Join}
use Rattle.layout.specs.declared.route.Route.{Route}
use Rattle.flank.specs.Signals.{passes, onward, along}
use Rattle.flank.specs.Used.{used_table}
use Rattle.flank.specs.Flanks.{flank_in, flank_of}
use Rattle.flank.specs.Protection.{flank_marks, no_marks, marks_below}

-- passing signals, of which n more may be passed
pub along_suc : (b : Bool) (es : List Element) (n : ℕ) (q : Join) → passes b es q ≡ true → along b es (suc n) q ≡ along b es n (onward es q)
unfolding along
along_suc b es n q e = rw (e, along)

pub along_more : (b : Bool) (es : List Element) (n : ℕ) (q : Join) → 0 < n → passes b es q ≡ true → along b es n q ≡ along b es (n - 1) (onward es q)
along_more b es n q h e = let k : n ≡ suc (n - 1) = omega arith in ap (λ m. along b es m q) k ∙ along_suc b es (n - 1) q e

pub along_rests : (b : Bool) (es : List Element) (n : ℕ) (q : Join) → passes b es q ≡ false → along b es n q ≡ q
unfolding along
along_rests b es zero q h = refl
along_rests b es (suc n) q h = rw (h, along)

-- no point lies inside a way of fewer than two elements
pub flank_nowhere : (es : List Element) (before : ℕ) (way : List ℕ) (e : ℕ) → length way < 2 → flank_in es before way e ≡ None
unfolding flank_in
flank_nowhere es before [] e h = refl
flank_nowhere es before (x ∷ []) e h = refl
flank_nowhere es before (x ∷ y ∷ ys) e h = absurd (omega arith)

-- marking flank after flank
pub marks_none : (es : List Element) (r : Route) → marks_below es r 0 ≡ no_marks
unfolding marks_below
marks_none es r = refl

pub no_marks_length : length no_marks ≡ 96
unfolding no_marks
no_marks_length = refl

pub marks_more : (es : List Element) (r : Route) (k : ℕ)
    → marks_below es r (k + 1) ≡ flank_marks es (used_table es r) k (flank_of es r k) (marks_below es r k)
unfolding marks_below
marks_more es r k = rw add-one
