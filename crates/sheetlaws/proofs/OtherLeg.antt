-- A way passes a point in a position exactly if the other leg is its flank.
use Rattle.std.proofs.Common.{◌≡◌, ℕ, suc, ◌<◌, ◌⊎◌, List, length, sym, refl, ap, ◌∙◌, inl, inr, arith}
use Rattle.std.proofs.lemmas.Bool.{cases_order}
use Rattle.layout.specs.declared.element.Element.{Element}
use Rattle.layout.specs.declared.kind.Kind.TheVariants as kind
use Rattle.layout.specs.declared.position.Position.{Position}
use Rattle.layout.specs.declared.position.Position.TheVariants as position
use Rattle.layout.specs.Ports.{at}
use Rattle.layout.specs.Positions.{other}
use Rattle.layout.specs.Sound.{SoundElements}
use Rattle.layout.specs.Ways.{place, Runs}
use Rattle.layout.specs.Uses.{Between, PassesBy, leg, PassesIn, FlankOf}
use Rattle.paths.specs.Sound.{Within}
use Rattle.walks.proofs.Legs.{low_entered, low_left, turned, ports_by, one_leg}

pub twice_other : (p : Position) → other (other p) ≡ p
twice_other position.Plus = refl
twice_other position.Minus = refl

module _ (es : List Element) (sound : SoundElements es) (way : List ℕ) (within : Within es way) (runs : Runs es way) where
  -- a way passes by one of the legs
  pub either_leg : (k : ℕ) → suc (suc k) < length way → (at es (place way (suc k))).kind ≡ kind.Point → PassesBy es way k 1 ⊎ PassesBy es way k 2
  either_leg k short point = go (cases_order (runs.enters (suc k)) 1) (cases_order (runs.leaves (suc k)) 1)
    where
      go : (runs.enters (suc k) ≡ 1) ⊎ ((runs.enters (suc k) < 1) ⊎ (1 < runs.enters (suc k)))
          → (runs.leaves (suc k) ≡ 1) ⊎ ((runs.leaves (suc k) < 1) ⊎ (1 < runs.leaves (suc k)))
          → PassesBy es way k 1 ⊎ PassesBy es way k 2
      go (inl x) y = inl (ports_by es sound way within runs k short point 1 (inl (sym x)))
      go (inr (inr x)) y = inr (ports_by es sound way within runs k short point 2 (inl (omega (arith, low_entered es sound way within runs k short point))))
      go (inr (inl x)) (inl y) = inl (ports_by es sound way within runs k short point 1 (inr (sym y)))
      go (inr (inl x)) (inr (inr y)) = inr (ports_by es sound way within runs k short point 2 (inr (omega (arith, low_left es sound way within runs k short point))))
      go (inr (inl x)) (inr (inl y)) = absurd ((turned es sound way within runs k short point).0 (omega arith))

  module _ (e : ℕ) where
    point_there : (k : ℕ) → Between way e k → (at es e).kind ≡ kind.Point → (at es (place way (suc k))).kind ≡ kind.Point
    point_there k b point = ap (λ (n : ℕ). (at es n).kind) b.is ∙ point

    pub passes_flank : (p : Position) → PassesIn es way e p → FlankOf es way e (other p)
    passes_flank p f = record { at_place = f.at_place; between = f.between; point = f.point; free = go p f.by_leg }
      where
        go : (p : Position) → PassesBy es way f.at_place (leg p) → PassesBy es way f.at_place (leg (other p)) → ⊥
        go position.Plus a b = one_leg es sound way within runs f.at_place f.between.within (point_there f.at_place f.between f.point) a b
        go position.Minus a b = one_leg es sound way within runs f.at_place f.between.within (point_there f.at_place f.between f.point) b a

    pub flank_passes : (p : Position) → FlankOf es way e p → PassesIn es way e (other p)
    flank_passes p f =
        record {
          at_place = f.at_place;
          between = f.between;
          point = f.point;
          by_leg = go p f.free (either_leg f.at_place f.between.within (point_there f.at_place f.between f.point));
        }
      where
        go : (p : Position) → (PassesBy es way f.at_place (leg p) → ⊥) → PassesBy es way f.at_place 1 ⊎ PassesBy es way f.at_place 2
            → PassesBy es way f.at_place (leg (other p))
        go position.Plus n (inl a) = absurd (n a)
        go position.Plus n (inr b) = b
        go position.Minus n (inl a) = a
        go position.Minus n (inr b) = absurd (n b)
