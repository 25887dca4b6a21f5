-- What a route requests is what walks come to, and its open branches are where walks end open.
use Rattle.std.proofs.Common.{◌≡◌, ℕ, suc, ◌<◌, ◌≤◌, ◌⊎◌, List, [], length, Some, sym, ap, ◌∙◌, subst, inl, inr, arith}
use Rattle.layout.specs.declared.element.Element.{Element}
use Rattle.layout.specs.declared.element.Join.{Join}
use Rattle.layout.specs.declared.position.Position.{Position}
use Rattle.layout.specs.declared.route.Route.{Route}
use Rattle.layout.specs.Ways.{port}
use Rattle.layout.specs.Sound.{SoundElements}
use Rattle.layout.specs.Uses.{path_of, overlap_of, Flank}
use Rattle.paths.specs.Sound.{Within, SoundOverlap}
use Rattle.flank.specs.Used.{used_table}
use Rattle.flank.specs.Flanks.{flank_of}
use Rattle.flank.specs.Search.{Finding, shield, open_end}
use Rattle.flank.specs.Protection.{request, branch, requests_of, branches_of, route_marks}
use Rattle.walks.specs.Walks.{Walk, Requested, EndsOpen}
use Rattle.walks.specs.Exactly.{In, ChainsEnd, UsedExact, FlanksExact, RequestsExact, BranchesExact}
use Rattle.walks.proofs.Chain.{starts, along_stops}
use Rattle.walks.proofs.Told.{Ground, no_signal}
use Rattle.walks.proofs.Found.{Comes, walk_port, comes_found, found_comes}
use Rattle.walks.proofs.Used.{from_table, to_table}
use Rattle.walks.proofs.Flanks.{SoundRoute, sound_route, flank_left, left_flank, flank_inside}
use Rattle.walks.proofs.Tables.{Finds, below_has, has_below, alone_has, has_alone, in_requests, requests_have, in_below, below_in}

module _ (es : List Element) (r : Route) (elements : SoundElements es) (few : length es ≤ 96) (route : SoundRoute es r) where
  pub overlap_within : Within es (overlap_of r)
  overlap_within = go route.overlap
    where
      go : (overlap_of r ≡ []) ⊎ SoundOverlap es (path_of r) (overlap_of r) → Within es (overlap_of r)
      go (inl i) k h = absurd (omega (arith, ap length i))
      go (inr s) k h = s.within k h

  ground : Ground es r (used_table es r)
  ground =
      record { sound = elements; few = few; to_table = to_table es r few route.path.within overlap_within; from_table = from_table es r }

  -- out of a flank, the search finds what walks come to
  module _ (u : ℕ) (side : Position) (reach : ℕ) (flank : Flank es r u side reach) (g : Finding) where
    pub flank_comes : Comes es r u side reach g → Finds es r g u
    flank_comes h =
        let f = flank_left es r elements route u flank in
        let at_point = flank_inside es r elements route u flank in
        let comes : Comes es r u f.found.leg (suc f.found.spare) g =
        subst (λ n. Comes es r u f.found.leg n g) (sym f.reach_is) (subst (λ (p : Position). Comes es r u p reach g) (sym f.leg_is) h)
        in
        record { flank = f.found; is = f.is; finds = comes_found es r (used_table es r) ground u f.found.leg at_point.0 at_point.1 f.found.spare g comes }

    pub comes_low : {n : ℕ} {q : Join} → Walk es r u side reach n q → q.element < 96
    comes_low {n} {q} w =
        let f = flank_left es r elements route u flank in
        let at_point = flank_inside es r elements route u flank in
        let walk : Walk es r u side (suc f.found.spare) n q = subst (λ k. Walk es r u side k n q) (sym f.reach_is) w in
        omega (arith, (walk_port es r (used_table es r) ground u side at_point.0 at_point.1 f.found.spare walk).0)

    pub flank_low : u < 96
    flank_low = omega (arith, (flank_inside es r elements route u flank).0)

  -- and back
  finds_comes : (g : Finding) (u : ℕ) (h : Finds es r g u) → Flank es r u h.flank.leg (suc h.flank.spare) × Comes es r u h.flank.leg (suc h.flank.spare) g
  finds_comes g u h =
      let flank = left_flank es r elements route u h.flank h.is in
      let at_point = flank_inside es r elements route u flank in
      (flank, found_comes es r (used_table es r) ground u h.flank.leg at_point.0 at_point.1 h.flank.spare g h.finds)

  to_requests : (e : ℕ) (p : Position) → Requested es r e p → In (request e p) (requests_of es r)
  to_requests e p h =
      let small : e < 96 = subst (λ n. n < 96) h.is (comes_low h.used_point h.side h.reach h.flank (shield e p) h.comes) in
      let found = flank_comes h.used_point h.side h.reach h.flank (shield e p) (h.count, h.at_port, h.comes, h.unused, h.able, h.is) in
      requests_have (route_marks es r) 96 e p small
      (has_below es r (shield e p) small 96 h.used_point (flank_low h.used_point h.side h.reach h.flank (shield e p)) found)

  from_requests : (e : ℕ) (p : Position) → In (request e p) (requests_of es r) → Requested es r e p
  from_requests e p h =
      let has = in_requests (route_marks es r) 96 e p h in
      let found = below_has es r (shield e p) has.0 96 has.1 in
      let back = finds_comes (shield e p) found.0 found.2 in
      record {
        used_point = found.0;
        side = found.2.flank.leg;
        reach = suc found.2.flank.spare;
        flank = back.0;
        count = back.1.0;
        at_port = back.1.1;
        comes = back.1.2;
        unused = back.1.3;
        able = back.1.4;
        is = back.1.5;
      }

  to_branches : (u l : ℕ) → EndsOpen es r u l → In (branch u l) (branches_of es r)
  to_branches u l h =
      let small : l < 96 = subst (λ n. n < 96) h.is (comes_low u h.side h.reach h.flank (open_end l) h.comes) in
      let found = flank_comes u h.side h.reach h.flank (open_end l) (h.count, h.at_port, h.comes, h.counts, h.full, h.is) in
      below_in es r 96 u l (flank_low u h.side h.reach h.flank (open_end l)) small (has_alone es r (open_end l) small u found)

  from_branches : (u l : ℕ) → In (branch u l) (branches_of es r) → EndsOpen es r u l
  from_branches u l h =
      let has = in_below es r 96 u l h in
      let found = alone_has es r (open_end l) has.1 u has.2 in
      let back = finds_comes (open_end l) u found in
      record {
        side = found.flank.leg;
        reach = suc found.flank.spare;
        flank = back.0;
        count = back.1.0;
        at_port = back.1.1;
        comes = back.1.2;
        counts = back.1.3;
        full = back.1.4;
        is = back.1.5;
      }

pub chains_end : ChainsEnd
chains_end es elements few able_too e p h l n = along_stops able_too es elements few (starts (port e p) (h, l) (no_signal _ n))

pub requests_exact : RequestsExact
requests_exact es r elements few path overlap e p =
    let route = sound_route es r path overlap in (to_requests es r elements few route e p, from_requests es r elements few route e p)

pub branches_exact : BranchesExact
branches_exact es r elements few path overlap u l =
    let route = sound_route es r path overlap in (to_branches es r elements few route u l, from_branches es r elements few route u l)

pub used_exact : UsedExact
used_exact es r elements few path overlap e =
    let route = sound_route es r path overlap in
    (from_table es r e, to_table es r few route.path.within (overlap_within es r elements few route) e)

pub flanks_exact : FlanksExact
flanks_exact es r elements few path overlap e n p =
    let route = sound_route es r path overlap in
    (left_flank es r elements route e (record { leg = p; spare = n }), left)
  where
    left : Flank es r e p (suc n) → flank_of es r e ≡ Some (record { leg = p; spare = n })
    left f =
        let found = flank_left es r elements (sound_route es r path overlap) e f in
        let spare : found.found.spare ≡ n = omega (arith, found.reach_is) in
        found.is ∙ ap Some (λ i. record { leg = found.leg_is i; spare = spare i })
