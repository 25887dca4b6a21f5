-- The search out of a leg finds what the walks out of it come to, and nothing else.
use Rattle.std.proofs.Common.{◌≡◌, ℕ, zero, suc, ◌+◌, ◌-◌, ◌<◌, ◌≤◌, Bool, true, false, ◌≢◌, ◌⊎◌, List, [], ◌∷◌, ◌++◌, length, Some, sym, refl, ap, ◌∙◌, subst, inl, inr, ⊎_elim, arith}
use Rattle.std.proofs.lemmas.Bool.{and_parts, and_from, and_left, both_ways, cases_eq, not-true, not_from_false}
use Rattle.layout.specs.declared.element.Element.{Element}
use Rattle.layout.specs.declared.element.Join.{Join}
use Rattle.layout.specs.declared.kind.Kind.TheVariants as kind
use Rattle.layout.specs.declared.position.Position.{Position}
use Rattle.layout.specs.declared.position.Position.TheVariants as position
use Rattle.layout.specs.declared.route.Route.{Route}
use Rattle.layout.specs.Kinds.{is_signal}
use Rattle.layout.specs.Ports.{at, joined}
use Rattle.layout.specs.Ways.{port}
use Rattle.layout.specs.Uses.{Uses, leg}
use Rattle.layout.proofs.KindTests.{signal_test}
use Rattle.flank.specs.declared.meeting.Meeting.{Meeting}
use Rattle.flank.specs.declared.meeting.Meeting.TheVariants.{Ends, Shields, AtToe, AtLeg}
use Rattle.flank.specs.Signals.{far_end, across, onward, is_able_signal, passes, along, signal_ports}
use Rattle.flank.specs.Meetings.{meets}
use Rattle.flank.specs.Search.{Finding, shield, open_end, met, found, walk}
use Rattle.flank.proofs.Turns.{along_rests}
use Rattle.flank.proofs.Marking.{found_shields, found_ends, found_open, found_at_toe, found_at_leg}
use Rattle.walks.specs.Walks.{Is, LeadsPast, Able, Counts, Walk, leaves, passes_signal, passes_by_leg, passes_by_toe}
use Rattle.walks.specs.Exactly.{In}
use Rattle.walks.proofs.Net.{Port, far_is, linked}
use Rattle.walks.proofs.Chain.{Chain, starts, goes, across_port, along_step, chain_port}
use Rattle.walks.proofs.Told.{Ground, Told, told, able_place, able_signal, signal_able}

pub in_left : {A : Type 0} (a : A) (xs ys : List A) → In a xs → In a (xs ++ ys)
in_left a [] ys h = absurd h
in_left a (x ∷ xs) ys h = ⊎_elim (λ e. inl e) (λ t. inr (in_left a xs ys t)) h

pub in_right : {A : Type 0} (a : A) (xs ys : List A) → In a ys → In a (xs ++ ys)
in_right a [] ys h = h
in_right a (x ∷ xs) ys h = inr (in_right a xs ys h)

pub in_either : {A : Type 0} (a : A) (xs ys : List A) → In a (xs ++ ys) → In a xs ⊎ In a ys
in_either a [] ys h = inr h
in_either a (x ∷ xs) ys h = ⊎_elim (λ e. inl (inl e)) (λ t. ⊎_elim (λ l. inl (inr l)) inr (in_either a xs ys t)) h

-- what a walk out of a leg comes to
abbrev pub Comes : List Element → Route → ℕ → Position → ℕ → Finding → Type 0
Comes es r u side reach (shield e p) =
    (n : ℕ) × (q : Join) × Walk es r u side reach n q × (Uses es r q.element → ⊥) × Able es r q p × (q.element ≡ e)
Comes es r u side reach (open_end e) = (n : ℕ) × (q : Join) × Walk es r u side reach n q × Counts es r q × (suc n ≡ reach) × (q.element ≡ e)

leg_low : (p : Position) → leg p < 3
leg_low position.Plus = omega arith
leg_low position.Minus = omega arith

module _ (es : List Element) (r : Route) (used : List Bool) (ground : Ground es r used) where
  -- what is able, and what counts, is no passed signal
  able_rests : (q : Join) → {p : Position} → Able es r q p → passes false es q ≡ false
  able_rests q a = go _ refl
    where
      go : (b : Bool) → passes false es q ≡ b → passes false es q ≡ false
      go true e = let t = and_parts _ _ e in absurd (both_ways _ (not-true _ t.1) (able_signal (signal_test _ t.0) a))
      go false e = e

  counts_rests : (q : Join) → Counts es r q → passes false es q ≡ false
  counts_rests q c = and_left _ _ (ap is_signal c.is_point)

  rests_met : (q : Join) → passes false es q ≡ false → met es q ≡ q
  rests_met q e = along_rests false es signal_ports q e

  -- and the meeting there
  meets_able : (q : Join) → Port es q → (Uses es r q.element → ⊥) → (p : Position) → Able es r q p → meets es used q ≡ Shields p
  meets_able q h u p a = go (meets es used q) (told es r used ground q h)
    where
      go : (m : Meeting) → Told es r q m → m ≡ Shields p
      go Ends t = absurd (t.0 p u a)
      go (Shields s) t = ap Shields (able_place t.1 ∙ sym (able_place a))
      go AtToe t = absurd (t.0.unable p a)
      go AtLeg t = absurd (t.0.unable p a)

  meets_toe : (q : Join) → Port es q → Counts es r q → q.port ≡ 0 → meets es used q ≡ AtToe
  meets_toe q h c z = go (meets es used q) (told es r used ground q h)
    where
      go : (m : Meeting) → Told es r q m → m ≡ AtToe
      go Ends t = absurd (t.1 c)
      go (Shields s) t = absurd (c.unable s t.1)
      go AtToe t = refl
      go AtLeg t = absurd (t.1 z)

  meets_leg : (q : Join) → Port es q → Counts es r q → q.port ≢ 0 → meets es used q ≡ AtLeg
  meets_leg q h c n = go (meets es used q) (told es r used ground q h)
    where
      go : (m : Meeting) → Told es r q m → m ≡ AtLeg
      go Ends t = absurd (t.1 c)
      go (Shields s) t = absurd (c.unable s t.1)
      go AtToe t = absurd (n t.1)
      go AtLeg t = refl

  unable_passes : (q : Join) → Is kind.Signal es q → (Able es r q position.Plus → ⊥) → passes false es q ≡ true
  unable_passes q s a = and_from _ _ (ap is_signal s) (not_from_false _ (go _ refl))
    where
      go : (b : Bool) → is_able_signal (at es q.element) q.port ≡ b → is_able_signal (at es q.element) q.port ≡ false
      go true e = absurd (a (signal_able q s e))
      go false e = e

  in_leg : (n : ℕ) (m : Join) (p : Position) → meets es used m ≡ AtToe → (f : Finding) → In f (walk n es used (far_end es (port m.element (leg p)))) → In f (found (suc n) es used m)
  in_leg n m position.Plus e f h = rw (found_at_toe es used n m e) (in_left f _ _ h)
  in_leg n m position.Minus e f h = rw (found_at_toe es used n m e) (in_right f _ _ h)

  module _ (u : ℕ) (side : Position) (inside : u < length es) (at_point : (at es u).kind ≡ kind.Point) (spare : ℕ) where
    -- the port met first
    abbrev start : Join
    start = far_end es (port u (leg side))

    leg_port : Port es (port u (leg side))
    leg_port = (inside, rw at_point (leg_low side))

    start_chain : Chain false es start
    start_chain = starts (port u (leg side)) leg_port (ap is_signal at_point)

    on_chain : (q : Join) → Port es q → Is kind.Point es q → (p : ℕ) → p < 3 → Chain false es (far_end es (port q.element p))
    on_chain q h k p l = starts (port q.element p) (h.0, rw k l) (ap is_signal k)

    Finds : ℕ → Join → Type 0
    Finds l q = (f : Finding) → In f (walk l es used q) → In f (walk spare es used start)

    -- a walk is on a chain, and what is found from where it stands is found from the flank
    record Stands (n : ℕ) (q : Join) : Type 0 where
      low : n ≤ spare
      chain : Chain false es q
      finds : Finds (spare - n) q

    stands : {n : ℕ} {q : Join} → Walk es r u side (suc spare) n q → Stands n q
    unfolding Finds
    stands (leaves {q} j) =
        subst (Stands 0) (far_is es u (leg side) q j)
        (record { low = omega arith; chain = start_chain; finds = λ f h. let z : spare - 0 ≡ spare = omega arith in rw z at h })
    stands (passes_signal {n} {q} {next} w s a j) =
        let i = stands w in
        let e = unable_passes q s a in
        let same : met es (onward es q) ≡ met es q = along_step false es ground.sound ground.few i.chain e in
        subst (Stands n) (far_is es q.element (1 - q.port) next j)
        (record {
          low = i.low;
          chain = goes i.chain e;
          finds = λ f h. i.finds f (subst (λ (m : Join). In f (found (spare - n) es used m)) same h);
        })
    stands (passes_by_leg {n} {q} {next} w c z l p j) =
        let i = stands w in
        let h = chain_port false es ground.sound ground.few i.chain in
        let more : spare - n ≡ suc (spare - suc n) = omega arith in
        let here : met es q ≡ q = rests_met q (counts_rests q c) in
        subst (Stands (suc n)) (far_is es q.element (leg p) next j)
        (record {
          low = omega arith;
          chain = on_chain q h c.is_point (leg p) (leg_low p);
          finds = λ f k.
              i.finds f (subst (λ (m : Join). In f (found (spare - n) es used m)) (sym here) (rw more (in_leg (spare - suc n) q p (meets_toe q h c z) f k)));
        })
    stands (passes_by_toe {n} {q} {next} w c z l j) =
        let i = stands w in
        let h = chain_port false es ground.sound ground.few i.chain in
        let more : spare - n ≡ suc (spare - suc n) = omega arith in
        let here : met es q ≡ q = rests_met q (counts_rests q c) in
        subst (Stands (suc n)) (far_is es q.element 0 next j)
        (record {
          low = omega arith;
          chain = on_chain q h c.is_point 0 (omega arith);
          finds = λ f k.
              i.finds f (subst (λ (m : Join). In f (found (spare - n) es used m)) (sym here) (rw (more, found_at_leg es used (spare - suc n) q (meets_leg q h c z)) k));
        })

    -- a walk stays in the drawing
    pub walk_port : {n : ℕ} {q : Join} → Walk es r u side (suc spare) n q → Port es q
    walk_port w = chain_port false es ground.sound ground.few (stands w).chain

    pub comes_found : (f : Finding) → Comes es r u side (suc spare) f → In f (walk spare es used start)
    unfolding Finds
    comes_found (shield e p) (n, q, w, unused, a, is) =
        let here : met es q ≡ q = rests_met q (able_rests q a) in
        (stands w).finds (shield e p)
        (subst (λ (m : Join). In (shield e p) (found (spare - n) es used m)) (sym here)
        (rw (found_shields es used (spare - n) q p (meets_able q (walk_port w) unused p a)) (inl (ap (λ k. shield k p) is))))
    comes_found (open_end e) (n, q, w, c, full, is) =
        let here : met es q ≡ q = rests_met q (counts_rests q c) in
        let none : spare - n ≡ 0 = omega arith in
        let either : (meets es used q ≡ AtToe) ⊎ (meets es used q ≡ AtLeg) =
        ⊎_elim (λ z. inl (meets_toe q (walk_port w) c z)) (λ d. inr (meets_leg q (walk_port w) c d)) (cases_eq q.port 0)
        in
        (stands w).finds (open_end e)
        (subst (λ (m : Join). In (open_end e) (found (spare - n) es used m)) (sym here) (rw (none, found_open es used q either) (inl (ap open_end is))))

    walk_along : (k n : ℕ) (q : Join) → Walk es r u side (suc spare) n q → Walk es r u side (suc spare) n (along false es k q)
    unfolding along
    walk_along zero n q w = w
    walk_along (suc k) n q w = go (walk_along k n (onward es q)) (passes false es q) refl
      where
        go : (Walk es r u side (suc spare) n (onward es q) → Walk es r u side (suc spare) n (along false es k (onward es q)))
            → (b : Bool) → passes false es q ≡ b → Walk es r u side (suc spare) n (along false es (suc k) q)
        go ih true e =
            let t = and_parts _ _ e in
            let s = signal_test _ t.0 in
            let leads : LeadsPast es q (onward es q) = linked es ground.sound (across q) (across_port false es ground.sound ground.few q (walk_port w) e) in
            rw (e, along) (ih (passes_signal w s (λ a. both_ways _ (not-true _ t.1) (able_signal s a)) leads))
        go ih false e = rw (e, along) w

    only : (g f : Finding) → Comes es r u side (suc spare) g → In f (g ∷ []) → Comes es r u side (suc spare) f
    only g f h (inl e) = subst (Comes es r u side (suc spare)) e h
    only g f h (inr x) = elim x [ ]

    -- where a walk goes on from a point
    on_from : (n : ℕ) (m : Join) → Walk es r u side (suc spare) n m → Counts es r m → (p : ℕ) → p < 3 → joined es m.element p ≡ Some (far_end es (port m.element p))
    on_from n m w c p l = linked es ground.sound (port m.element p) ((walk_port w).0, rw c.is_point l)

    found_from : (l n : ℕ) (m : Join) → Walk es r u side (suc spare) n m → n + l ≡ spare → (f : Finding) → In f (found l es used m) → Comes es r u side (suc spare) f
    found_from zero n m w e f h = go (meets es used m) refl (told es r used ground m (walk_port w))
      where
        go : (k : Meeting) → meets es used m ≡ k → Told es r m k → Comes es r u side (suc spare) f
        go Ends i t = absurd (rw (found_ends es used 0 m i) at h)
        go (Shields p) i t = only (shield m.element p) f (n, m, w, t.0, t.1, refl) (rw (found_shields es used 0 m p i) at h)
        go AtToe i t = only (open_end m.element) f (n, m, w, t.0, omega arith, refl) (rw (found_open es used m (inl i)) at h)
        go AtLeg i t = only (open_end m.element) f (n, m, w, t.0, omega arith, refl) (rw (found_open es used m (inr i)) at h)
    found_from (suc l) n m w e f h =
        go (λ q v i. found_from l (suc n) (met es q) (walk_along signal_ports (suc n) q v) (omega arith) f i) (meets es used m) refl (told es r used ground m (walk_port w))
      where
        go : ((q : Join) → Walk es r u side (suc spare) (suc n) q → In f (walk l es used q) → Comes es r u side (suc spare) f)
            → (k : Meeting) → meets es used m ≡ k → Told es r m k → Comes es r u side (suc spare) f
        go ih Ends i t = absurd (rw (found_ends es used (suc l) m i) at h)
        go ih (Shields p) i t = only (shield m.element p) f (n, m, w, t.0, t.1, refl) (rw (found_shields es used (suc l) m p i) at h)
        go ih AtToe i t =
            ⊎_elim (ih _ (passes_by_leg w t.0 t.1 (omega arith) position.Plus (on_from n m w t.0 1 (omega arith))))
            (ih _ (passes_by_leg w t.0 t.1 (omega arith) position.Minus (on_from n m w t.0 2 (omega arith))))
            (in_either f _ _ (rw (found_at_toe es used l m i) at h))
        go ih AtLeg i t = ih _ (passes_by_toe w t.0 t.1 (omega arith) (on_from n m w t.0 0 (omega arith))) (rw (found_at_leg es used l m i) at h)

    pub found_comes : (f : Finding) → In f (walk spare es used start) → Comes es r u side (suc spare) f
    found_comes f h =
        found_from spare 0 (met es start) (walk_along signal_ports 0 start (leaves (linked es ground.sound (port u (leg side)) leg_port))) (omega arith) f h
