-- The worked runs: what the definitions say of whole runs on small stations.
use Rattle.std.specs.Prelude.{◌≡◌, true, false, [], ◌∷◌, Some, None}
use Rattle.layout.specs.declared.position.Position.TheVariants as position
use Rattle.plan.specs.Plans.{reading}
use Rattle.acts.specs.declared.act.Act.TheVariants as act
use Rattle.examples.specs.Acts.{cleared, lost, found_again, cleared_again, dark, prolonged, long_run, around, denied, freed, granted_late, lampless, unshielded, shielded, darkened, shunted}
use Rattle.examples.specs.Asked.{shows_after, answers_to, state_after, held_after, orders_after, order}
use Rattle.examples.specs.Plans.{k, two_routes, ring, overlapping, derailed, k_zeroed, k_spared, signalled}

-- Once the route of K is set, its points are reported and its end lamp burns, signal 1 shows 3; lost control of the flank point brings stop.
-- The signal stays at stop when control comes back, and shows 3 again only after a clear.
-- With two routes in prolongation, the first is held at stop by the dark lamp of its end signal only until that signal is permissive.
-- With dark lamps K's route shows 0, with a zero overlap 2, and with its end lamp spared 3.
-- A signal at the flank shields as long as its lamp burns. A shunting route over a derailer that is off shows 1.
abbrev pub WorkedAspects : Type 0
WorkedAspects =
    (shows_after (reading k) cleared 1 ≡ Some 3)
    × (shows_after (reading k) lost 1 ≡ Some 0)
    × (shows_after (reading k) found_again 1 ≡ Some 0)
    × (shows_after (reading k) cleared_again 1 ≡ Some 3)
    × (shows_after (reading two_routes) dark 0 ≡ Some 0)
    × (shows_after (reading two_routes) prolonged 2 ≡ Some 3)
    × (shows_after (reading two_routes) prolonged 0 ≡ Some 3)
    × (shows_after (reading k) lampless 1 ≡ Some 0)
    × (shows_after (reading k_zeroed) lampless 1 ≡ Some 2)
    × (shows_after (reading k_spared) lampless 1 ≡ Some 3)
    × (shows_after (reading signalled) unshielded 0 ≡ Some 0)
    × (shows_after (reading signalled) shielded 0 ≡ Some 3)
    × (shows_after (reading signalled) darkened 0 ≡ Some 0)
    × (shows_after (reading derailed) shunted 4 ≡ Some 1)

-- The acts of the long run on K get these answers.
-- Two routes of which one begins at the last signal of the other may share the section of a point in that one's overlap, whichever is set first.
-- A derailer that one route holds on refuses the route that needs it off, and a route on the path of a standing one is refused for its section.
-- A set is accepted though its request is denied.
-- On a ring two waiting routes do not start with dark lamps, and two clear ones stay clear.
abbrev pub WorkedAnswers : Type 0
WorkedAnswers =
    (answers_to (reading k) long_run ≡ None ∷ None ∷ None ∷ None ∷ Some 11 ∷ None ∷ None ∷ None ∷ None ∷ Some 15 ∷ None ∷ None ∷ Some 14 ∷ Some 16 ∷ Some 16 ∷ Some 16 ∷ Some 10 ∷ Some 10 ∷ [])
    × (answers_to (reading overlapping) (act.Set 0 ∷ act.Set 1 ∷ []) ≡ None ∷ None ∷ [])
    × (answers_to (reading overlapping) (act.Set 1 ∷ act.Set 0 ∷ []) ≡ None ∷ None ∷ [])
    × (answers_to (reading derailed) (act.Set 0 ∷ act.Set 1 ∷ act.Set 2 ∷ act.Set 3 ∷ []) ≡ None ∷ Some 13 ∷ Some 12 ∷ Some 10 ∷ [])
    × (answers_to (reading derailed) granted_late ≡ None ∷ None ∷ None ∷ None ∷ [])
    × (state_after (reading ring) dark 0 ≡ Some 1)
    × (state_after (reading ring) dark 1 ≡ Some 1)
    × (state_after (reading ring) around 0 ≡ Some 2)
    × (state_after (reading ring) around 1 ≡ Some 2)

-- The set of K's route orders 2 and then 5 to plus, and holds signal 1 in minus and 5 in plus; once it is released, it holds 5 no more.
-- Where another route has the derailer off, a request of it is denied; it stays so when that route is released, and is granted, and the
-- derailer ordered on, by a clear.
abbrev pub WorkedHolds : Type 0
WorkedHolds =
    (orders_after (reading k) [] (act.Set 0) ≡ order 2 position.Plus ∷ order 5 position.Plus ∷ [])
    × (held_after (reading k) (act.Set 0 ∷ []) 0 1 position.Minus ≡ true)
    × (held_after (reading k) (act.Set 0 ∷ []) 0 5 position.Plus ≡ true)
    × (held_after (reading k) long_run 0 5 position.Plus ≡ false)
    × (held_after (reading derailed) denied 0 3 position.Plus ≡ false)
    × (held_after (reading derailed) freed 0 3 position.Plus ≡ false)
    × (held_after (reading derailed) granted_late 0 3 position.Plus ≡ true)
    × (orders_after (reading derailed) freed (act.Clear 0) ≡ order 1 position.Plus ∷ order 3 position.Plus ∷ [])
