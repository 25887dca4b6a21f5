use Rattle.std.proofs.Common.{◌≡◌, refl, inl, inr, arith}
use Rattle.bounded.specs.Lists.{blanks}
use Rattle.bits.specs.Bits.{bit}
use Rattle.flank.specs.Flanks.{flank_in, flank_over}
use Rattle.flank.specs.Protection.{no_marks, marks_below, requests_in, branches_in, branches_below}
use Rattle.flank.specs.Search.{found, marks}
use Rattle.flank.specs.Signals.{along}
use Rattle.flank.specs.Used.{with_used, used_table}
use Rattle.layout.specs.Uses.{in_path, in_overlap}
use Rattle.layout.specs.Ways.{port}
use Rattle.paths.specs.Following.{step}
use Rattle.paths.specs.Places.{lacks, are_within, are_new, are_signals_between}
use Rattle.plan.specs.Checks.{elements_fault, routes_fault}
use Rattle.plan.specs.Plans.{is_sound, reading}
use Rattle.plan.specs.RequestTests.{asks_both_ways}
use Rattle.sheetlaws.specs.Needed.{starts, passes_in_path, passes_in_overlap, derails}
use Rattle.walks.specs.Walks.{here, past}
use Rattle.examples.specs.SmallStations.{WorkedStations}
use Rattle.examples.specs.FirstFaults.{WorkedFaults}
use Rattle.examples.proofs.Shielding.{shielded, far_element}
use Rattle.examples.proofs.stations.stations_hold.Goals as goal

stations : WorkedStations
unfolding blanks step lacks are_within are_new are_signals_between bit elements_fault routes_fault is_sound reading asks_both_ways flank_in flank_over no_marks marks_below requests_in branches_in branches_below found marks along with_used used_table
stations = record {
  fresh = refl;
  on_k = shielded _ _ _ refl refl (omega arith) refl refl;
  turned = shielded _ _ _ refl refl (omega arith) refl refl;
  shunting = shielded _ _ _ refl refl (omega arith) refl refl;
  used_first = shielded _ _ _ refl refl (omega arith) refl refl;
  own_signal = shielded _ _ _ refl refl (omega arith) refl refl;
  twice_met = shielded _ _ _ refl refl (omega arith) refl refl;
  track_beyond = shielded _ _ _ refl refl (omega arith) refl refl;
  signal_beyond = shielded _ _ _ refl refl (omega arith) refl refl;
  third_point = shielded _ _ _ refl refl (omega arith) refl refl;
  preferred = shielded _ _ _ refl refl (omega arith) refl refl;
  first_point = shielded _ _ _ refl refl (omega arith) refl refl;
  behind = record {
    next = port 5 1;
    first = port 2 2;
    toe = refl;
    beyond = past refl refl (here (λ e. cc));
    uses = inl (record { at_place = 1; between = record { is = refl; within = omega arith }; sectioned = refl });
  };
  uses_of_k = record {
    uses = record { at_place = 0; between = record { is = refl; within = omega arith }; sectioned = refl };
    section = (2, record { at_place = 0; between = record { is = refl; within = omega arith }; sectioned = refl }, refl);
    flank = in_path (record {
      at_place = 0;
      between = record { is = refl; within = omega arith };
      point = refl;
      free = elim [
        | inl x ↦ let e : 5 ≡ 1 = far_element x.1 in omega (arith, e)
        | inr x ↦ let e : 5 ≡ 3 = far_element x.1 in omega (arith, e)
      ];
    });
    passes = passes_in_path (record { at_place = 0; between = record { is = refl; within = omega arith }; point = refl; by_leg = inr (0, refl) });
    starts = starts refl;
    lamp = record { at_end = record { ends = refl; signal = refl }; no_zero = refl; kept = λ m e. cc };
  };
  uses_of_overlap = record {
    uses = record { at_place = 0; within = omega arith; is = refl; sectioned = refl };
    section = (3, record { at_place = 0; within = omega arith; is = refl; sectioned = refl }, refl);
    derails = derails (inr (record { at_place = 0; within = omega arith; is = refl; sectioned = refl })) refl;
    flank = in_overlap (record {
      at_place = 0;
      between = record { is = refl; within = omega arith };
      point = refl;
      free = elim [
        | inl x ↦ let e : 6 ≡ 2 = far_element x.1 in omega (arith, e)
        | inr x ↦ let e : 6 ≡ 4 = far_element x.1 in omega (arith, e)
      ];
    });
    passes = passes_in_overlap (record { at_place = 0; between = record { is = refl; within = omega arith }; point = refl; by_leg = inr (0, refl) });
  };
}

faults : WorkedFaults
unfolding blanks step lacks are_within are_new are_signals_between bit elements_fault routes_fault is_sound reading asks_both_ways flank_in flank_over no_marks marks_below requests_in branches_in branches_below found marks along with_used used_table
faults = record {
  of_bytes = record {
    no_element = refl;
    too_many_elements = refl;
    too_many_routes = refl;
    fields_missing = refl;
    map_of_a_route = refl;
    kind = refl;
    port = refl;
    section = refl;
    few_on_a_path = refl;
    no_overlap_count = refl;
    left_over = refl;
  };
  of_elements = record { fields = refl; fields_first = refl; no_such_element = refl; entry_marked = refl; entry_spared = refl };
  of_routes = record {
    no_path = refl;
    twice = refl;
    no_such_element = refl;
    shunting_signal = refl;
    zero_overlap = refl;
    to_plan_end = refl;
    both_overlaps = refl;
    shunting_zero = refl;
    not_beyond = refl;
    asked_both_ways = refl;
    route_by_route = refl;
  };
}

pub returns : goal.returns
returns c = record { stations = stations; faults = faults }
