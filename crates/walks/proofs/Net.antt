-- On sound elements every port is joined, to a port that is joined back to it.
use Rattle.std.proofs.Common.{◌≡◌, ℕ, ◌<◌, List, length, Some, Option, sym, ap, ◌∙◌, inl, inr}
use Rattle.std.proofs.lemmas.Bool.{cases_lt}
use Rattle.std.specs.Option.{unwrap_or}
use Rattle.layout.specs.declared.element.Element.{Element}
use Rattle.layout.specs.declared.element.Join.{Join}
use Rattle.layout.specs.Kinds.{ports}
use Rattle.layout.specs.Ports.{at, joined}
use Rattle.layout.specs.Ways.{port}
use Rattle.layout.specs.Sound.{SoundElements}
use Rattle.flank.specs.Signals.{far_end}

-- a port that an element of the drawing has
abbrev pub Port : List Element → Join → Type 0
Port es q = (q.element < length es) × (q.port < ports (at es q.element).kind)

pub far_is : (es : List Element) (e p : ℕ) (j : Join) → joined es e p ≡ Some j → far_end es (port e p) ≡ j
far_is es e p j h = ap (λ (o : Option Join). unwrap_or o (port e p)) h

module _ (es : List Element) (sound : SoundElements es) where
  -- a join is at a port that the element has
  pub join_low : (e p : ℕ) (j : Join) → e < length es → joined es e p ≡ Some j → p < ports (at es e).kind
  join_low e p j h i =
      elim (cases_lt p (ports (at es e).kind)) [
        | inl l ↦ l
        | inr l ↦ let none = (sound.fields e h).no_other p l in cc
      ]

  pub linked : (q : Join) → Port es q → joined es q.element q.port ≡ Some (far_end es q)
  linked q h =
      let j = (sound.fields q.element h.0).each_port q.port h.1 in
      j.1 ∙ ap (λ (x : Join). Some x) (sym (far_is es q.element q.port j.0 j.1))

  pub inside : (q : Join) → Port es q → Port es (far_end es q)
  inside q h = sound.joins.inside q.element q.port (far_end es q) h.0 (linked q h)

  pub back : (q : Join) → Port es q → far_end es (far_end es q) ≡ q
  back q h =
      let f : Join = far_end es q in
      far_is es f.element f.port q (sound.joins.back q.element q.port f h.0 (linked q h))
