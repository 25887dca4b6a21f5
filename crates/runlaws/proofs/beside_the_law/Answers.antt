use Rattle.runlaws.proofs.Admitted.{no_want_refuses, set_exactly, admits_over_locked, refused_changes_nothing, one_standing_start}
use Rattle.runlaws.proofs.beside_the_law.Goals as goal

pub returns : goal.returns
returns c =
    record {
      protection = no_want_refuses;
      set = set_exactly;
      locked = admits_over_locked;
      refused = refused_changes_nothing;
      starts = one_standing_start;
    }
