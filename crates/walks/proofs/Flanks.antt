-- The flanks that the search leaves are the flanks of the route.
use Rattle.std.proofs.Common.{◌≡◌, ℕ, zero, suc, ◌-◌, ◌<◌, Bool, true, false, ◌⊎◌, List, [], ◌∷◌, length, Some, None, Option, sym, refl, ap, ◌∙◌, subst, inl, inr, ⊎_elim, arith}
use Rattle.std.proofs.lemmas.Option.{none-some}
use Rattle.std.specs.Option.{option_or}
use Rattle.bounded.specs.declared.bounded.Bounded.{Bounded}
use Rattle.layout.specs.declared.element.Element.{Element}
use Rattle.layout.specs.declared.kind.Kind.TheVariants as kind
use Rattle.layout.specs.declared.position.Position.{Position}
use Rattle.layout.specs.declared.route.Route.{Route}
use Rattle.layout.specs.declared.route.RouteClass.{RouteClass}
use Rattle.layout.specs.declared.route.RouteClass.TheVariants as class
use Rattle.layout.specs.Kinds.{is_point}
use Rattle.layout.specs.Ports.{at}
use Rattle.layout.specs.Ways.{place}
use Rattle.layout.specs.Uses.{numbers, path_of, overlap_of, FlankOf, path_reach, Flank, in_path, in_overlap}
use Rattle.layout.specs.Sound.{SoundElements}
use Rattle.layout.proofs.KindTests.{point_test}
use Rattle.paths.specs.Sound.{Within, Once, last, SoundPath, SoundOverlap, HasSoundPath, AllowedOverlap, no_overlap, zero_overlap, some_overlap}
use Rattle.flank.specs.declared.flanks.Flank.{Flank as Leg}
use Rattle.flank.specs.Flanks.{flank_in, path_spare, with_spare, flank_over, flank_of}
use Rattle.walks.proofs.Legs.{found_in, leg_flank, flank_leg}

-- a route with a sound path, and with a sound overlap or none
pub record SoundRoute (es : List Element) (r : Route) : Type 0 where
  pub path : SoundPath es r.class (path_of r)
  pub overlap : (overlap_of r ≡ []) ⊎ SoundOverlap es (path_of r) (overlap_of r)

pub sound_route : (es : List Element) (r : Route) → HasSoundPath es r → AllowedOverlap es r → SoundRoute es r
sound_route es r h a = record { path = subst (SoundPath es r.class) (sym (read_path h.path h.is)) h.sound; overlap = go a }
  where
    read_path : (path : Bounded ℕ 24) → r.path ≡ Some path → path_of r ≡ numbers (Some path)
    read_path path i = ap (λ (o : Option (Bounded ℕ 24)). numbers o) i

    read_overlap : (o : Option (Bounded ℕ 8)) → r.overlap ≡ o → overlap_of r ≡ numbers o
    read_overlap o i = ap (λ (o : Option (Bounded ℕ 8)). numbers o) i

    go : AllowedOverlap es r → (overlap_of r ≡ []) ⊎ SoundOverlap es (path_of r) (overlap_of r)
    go (no_overlap o z) = inl (read_overlap None o)
    go (zero_overlap c o z) = inl (read_overlap None o)
    go (some_overlap path overlap c z i j s) =
        inr
        (subst (λ (p : List ℕ). SoundOverlap es p (overlap_of r)) (sym (read_path path i))
        (subst (λ (o : List ℕ). SoundOverlap es (numbers (Some path)) o) (sym (read_overlap (Some overlap) j)) s))

-- the flank found is the one in the path, or where that has none the one in the overlap
either_way : (c : RouteClass) (a b : Option Position) (f : Leg) → option_or (with_spare a (path_spare c)) (with_spare b 0) ≡ Some f
    → ((a ≡ Some f.leg) × (f.spare ≡ path_spare c)) ⊎ ((b ≡ Some f.leg) × (f.spare ≡ 0))
either_way c (Some p) b f h = inl ((cc), (cc))
either_way c None (Some p) f h = inr ((cc), (cc))
either_way c None None f h = cc

-- the overlap beyond the last signal of the path
module _ (es : List Element) (path overlap : List ℕ) (within : Within es path) (sound : SoundOverlap es path overlap) where
  pub beyond_within : Within es (place path (last path) ∷ overlap)
  beyond_within zero h = within (last path) (omega (arith, sound.some_path))
  beyond_within (suc k) h = sound.within k (omega arith)

  beyond_once : Once (place path (last path) ∷ overlap)
  beyond_once zero zero l h = absurd (omega arith)
  beyond_once zero (suc k) l h = sound.apart (last path) k (omega (arith, sound.some_path)) (omega arith)
  beyond_once (suc j) zero l h = absurd (omega arith)
  beyond_once (suc j) (suc k) l h = sound.once j k (omega arith) (omega arith)

abbrev Either : List Element → RouteClass → List ℕ → List ℕ → ℕ → Leg → Type 0
Either es c path overlap e f =
    (FlankOf es path e f.leg × (f.spare ≡ path_spare c)) ⊎ (FlankOf es (place path (length path - 1) ∷ overlap) e f.leg × (f.spare ≡ 0))

module _ (es : List Element) (elements : SoundElements es) (c : RouteClass) (overlap : List ℕ) (e : ℕ) where
  over_flank : (path : List ℕ) → SoundPath es c path → (overlap ≡ []) ⊎ SoundOverlap es path overlap → (f : Leg)
      → flank_over es c path overlap e ≡ Some f → Either es c path overlap e f
  unfolding flank_over flank_in
  over_flank [] s o f h = cc
  over_flank (x ∷ xs) s o f h = go (is_point (at es e).kind) refl
    where
      beyond : (at es e).kind ≡ kind.Point → (overlap ≡ []) ⊎ SoundOverlap es (x ∷ xs) overlap → flank_in es (place (x ∷ xs) (last (x ∷ xs))) overlap e ≡ Some f.leg
          → FlankOf es (place (x ∷ xs) (last (x ∷ xs)) ∷ overlap) e f.leg
      beyond k (inl i) j = absurd (none-some f.leg (sym (ap (λ (w : List ℕ). flank_in es (place (x ∷ xs) (last (x ∷ xs))) w e) i) ∙ j))
      beyond k (inr t) j =
          leg_flank es elements (place (x ∷ xs) (last (x ∷ xs))) overlap (beyond_within es (x ∷ xs) overlap s.within t) (beyond_once es (x ∷ xs) overlap s.within t) t.runs e f.leg k j

      go : (b : Bool) → is_point (at es e).kind ≡ b → Either es c (x ∷ xs) overlap e f
      go true i =
          let k = point_test _ i in
          ⊎_elim (λ a. inl (leg_flank es elements x xs s.within s.once s.runs e f.leg k a.0, a.1)) (λ a. inr (beyond k o a.0, a.1))
          (either_way c _ _ f (rw (i, flank_over) at h))
      go false i = absurd (none-some f (rw (i, flank_over) at h))

  flank_path : (path : List ℕ) → SoundPath es c path → (p : Position) → FlankOf es path e p
      → flank_over es c path overlap e ≡ Some (record { leg = p; spare = path_spare c })
  unfolding flank_over
  flank_path [] s p f = absurd (omega (arith, f.between.within))
  flank_path (x ∷ xs) s p f = rw (ap is_point f.point, flank_over) (rw (flank_leg es elements x xs s.within s.once s.runs e p f))

  flank_overlap : (path : List ℕ) → SoundPath es c path → (overlap ≡ []) ⊎ SoundOverlap es path overlap → (p : Position)
      → FlankOf es (place path (length path - 1) ∷ overlap) e p → flank_over es c path overlap e ≡ Some (record { leg = p; spare = 0 })
  unfolding flank_over
  flank_overlap path s (inl i) p f = absurd (omega (arith, f.between.within, ap length i))
  flank_overlap [] s (inr t) p f = absurd (omega (arith, t.some_path))
  flank_overlap (x ∷ xs) s (inr t) p f =
      rw (ap is_point f.point, flank_over)
      (rw (
        not_in_path (flank_in es x xs e) refl,
        flank_leg es elements (place (x ∷ xs) (last (x ∷ xs))) overlap (beyond_within es (x ∷ xs) overlap s.within t) (beyond_once es (x ∷ xs) overlap s.within t) t.runs e p f,
      ))
    where
      not_in_path : (o : Option Position) → flank_in es x xs e ≡ o → flank_in es x xs e ≡ None
      not_in_path None i = i
      not_in_path (Some q) i =
          let a = found_in es e xs x q i in
          absurd (t.apart (suc a.0) f.at_place (omega (arith, a.1.within)) (omega (arith, f.between.within)) (a.1.is ∙ sym f.between.is))

reach_spare : (c : RouteClass) → suc (path_spare c) ≡ path_reach c
reach_spare class.Train = refl
reach_spare class.Shunting = refl

module _ (es : List Element) (r : Route) (elements : SoundElements es) (route : SoundRoute es r) (u : ℕ) where
  -- the flank that the search leaves at u
  pub record Leaves (p : Position) (reach : ℕ) : Type 0 where
    pub found : Leg
    pub is : flank_of es r u ≡ Some found
    pub leg_is : found.leg ≡ p
    pub reach_is : suc found.spare ≡ reach

  pub flank_left : {p : Position} {reach : ℕ} → Flank es r u p reach → Leaves p reach
  flank_left {p} (in_path f) =
      record {
        found = record { leg = p; spare = path_spare r.class };
        is = flank_path es elements r.class (overlap_of r) u (path_of r) route.path p f;
        leg_is = refl;
        reach_is = reach_spare r.class;
      }
  flank_left {p} (in_overlap f) =
      record {
        found = record { leg = p; spare = 0 };
        is = flank_overlap es elements r.class (overlap_of r) u (path_of r) route.path route.overlap p f;
        leg_is = refl;
        reach_is = refl;
      }

  pub left_flank : (f : Leg) → flank_of es r u ≡ Some f → Flank es r u f.leg (suc f.spare)
  left_flank f h =
      ⊎_elim (λ a. subst (Flank es r u f.leg) (sym (ap suc a.1 ∙ reach_spare r.class)) (in_path a.0)) (λ a. subst (Flank es r u f.leg) (sym (ap suc a.1)) (in_overlap a.0))
      (over_flank es elements r.class (overlap_of r) u (path_of r) route.path route.overlap f h)

  -- it is a point of the drawing
  pub flank_inside : {p : Position} {reach : ℕ} → Flank es r u p reach → (u < length es) × ((at es u).kind ≡ kind.Point)
  flank_inside (in_path f) =
      (subst (λ n. n < length es) f.between.is (route.path.within (suc f.at_place) (omega (arith, f.between.within))), f.point)
  flank_inside (in_overlap f) = (go route.overlap, f.point)
    where
      go : (overlap_of r ≡ []) ⊎ SoundOverlap es (path_of r) (overlap_of r) → u < length es
      go (inl i) = absurd (omega (arith, f.between.within, ap length i))
      go (inr t) = subst (λ n. n < length es) f.between.is (t.within f.at_place (omega (arith, f.between.within)))
