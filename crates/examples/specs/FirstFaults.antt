-- The first fault of bytes that differ little from those of a plan: each number once or more, and which of two comes first.
use Rattle.std.specs.Prelude.{◌≡◌, ℕ, List, [], ◌∷◌, ◌++◌, take, Some, None, slice_set}
use Rattle.plan.specs.Plans.{reading}
use Rattle.examples.specs.Plans.{k, own_last_signal, both_ways}
use Rattle.examples.specs.Readings.{told}

-- K with another route record.
abbrev pub k_with : List ℕ → List ℕ
k_with route = take 50 k ++ route

-- A count is out of its range before the missing bytes are missed. A map asks for fields that are not there. A map of a route has four bits.
-- Any map of an element, and any element number, is read. Of bytes left over the first is at fault.
pub record FaultsOfBytes : Type 0 where
  pub no_element : told (reading (0x00 ∷ [])) ≡ Some (2, 1, 0)
  pub too_many_elements : told (reading (slice_set k 0 97)) ≡ Some (2, 1, 0)
  pub too_many_routes : told (reading (0x01 ∷ 0x41 ∷ [])) ≡ Some (2, 1, 1)
  pub fields_missing : told (reading (0x01 ∷ 0x00 ∷ 0xFF ∷ [])) ≡ Some (1, 1, 3)
  pub map_of_a_route : told (reading (0x02 ∷ 0x01 ∷ 0x03 ∷ 0x04 ∷ 0x01 ∷ 0x00 ∷ 0x03 ∷ 0x04 ∷ 0x00 ∷ 0x00 ∷ 0x10 ∷ [])) ≡ Some (2, 1, 10)
  pub kind : told (reading (slice_set k 7 5)) ≡ Some (2, 1, 7)
  pub port : told (reading (slice_set k 49 3)) ≡ Some (2, 1, 49)
  pub section : told (reading (slice_set k 41 64)) ≡ Some (2, 1, 41)
  pub few_on_a_path : told (reading (k_with (0x03 ∷ 0x01 ∷ 0x02 ∷ 0x01 ∷ 0x02 ∷ []))) ≡ Some (2, 1, 52)
  pub no_overlap_count : told (reading (k_with (0x07 ∷ 0x01 ∷ 0x03 ∷ 0x01 ∷ 0x02 ∷ 0x03 ∷ 0x00 ∷ []))) ≡ Some (2, 1, 56)
  pub left_over : told (reading (k ++ 0x00 ∷ 0x00 ∷ [])) ≡ Some (3, 1, 56)

-- A derailer has a section and no sort. A fault of fields at a high number comes before one of joins at a low one. An element that is none
-- of the plan is joined to nothing. An entry signal may be spared its lamp, and may not be requested.
pub record FaultsOfElements : Type 0 where
  pub fields : told (reading (slice_set k 7 2)) ≡ Some (4, 2, 1)
  pub fields_first : told (reading (slice_set (slice_set k 49 2) 47 1)) ≡ Some (4, 2, 7)
  pub no_such_element : told (reading (slice_set k 48 255)) ≡ Some (5, 2, 5)
  pub entry_marked : told (reading (slice_set own_last_signal 24 2)) ≡ Some (6, 2, 2)
  pub entry_spared : told (reading (slice_set (slice_set own_last_signal 24 2) 25 2)) ≡ None

-- A path is missing; it names an element twice, or one that there is not; a train route starts at a shunting signal. A zero overlap, and an
-- overlap up to a plan end, are allowed on a train route, but not both; neither is on a shunting route; an overlap is joined to the last
-- signal's front. A point without the dual field is requested both ways. Each route is judged whole before the next.
pub record FaultsOfRoutes : Type 0 where
  pub no_path : told (reading (k_with (0x01 ∷ 0x01 ∷ []))) ≡ Some (7, 3, 0)
  pub twice : told (reading (slice_set k 55 2)) ≡ Some (7, 3, 0)
  pub no_such_element : told (reading (slice_set k 55 255)) ≡ Some (7, 3, 0)
  pub shunting_signal : told (reading (slice_set k 12 0)) ≡ Some (7, 3, 0)
  pub zero_overlap : told (reading (k_with (0x0B ∷ 0x01 ∷ 0x03 ∷ 0x01 ∷ 0x02 ∷ 0x03 ∷ 0x01 ∷ []))) ≡ None
  pub to_plan_end : told (reading (k_with (0x07 ∷ 0x01 ∷ 0x03 ∷ 0x01 ∷ 0x02 ∷ 0x03 ∷ 0x01 ∷ 0x04 ∷ []))) ≡ None
  pub both_overlaps : told (reading (k_with (0x0F ∷ 0x01 ∷ 0x03 ∷ 0x01 ∷ 0x02 ∷ 0x03 ∷ 0x01 ∷ 0x04 ∷ 0x01 ∷ []))) ≡ Some (8, 3, 0)
  pub shunting_zero : told (reading (k_with (0x0A ∷ 0x03 ∷ 0x01 ∷ 0x02 ∷ 0x03 ∷ 0x01 ∷ []))) ≡ Some (8, 3, 0)
  pub not_beyond : told (reading (k_with (0x07 ∷ 0x01 ∷ 0x03 ∷ 0x01 ∷ 0x02 ∷ 0x03 ∷ 0x01 ∷ 0x00 ∷ []))) ≡ Some (8, 3, 0)
  pub asked_both_ways : told (reading both_ways) ≡ Some (9, 3, 0)
  pub route_by_route :
      told (reading (slice_set (k_with (0x0A ∷ 0x03 ∷ 0x01 ∷ 0x02 ∷ 0x03 ∷ 0x01 ∷ 0x01 ∷ 0x01 ∷ [])) 1 2)) ≡ Some (8, 3, 0)

pub record WorkedFaults : Type 0 where
  pub of_bytes : FaultsOfBytes
  pub of_elements : FaultsOfElements
  pub of_routes : FaultsOfRoutes
