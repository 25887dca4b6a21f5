-- The acts of the worked runs.
use Rattle.std.specs.Prelude.{List, [], ◌∷◌, ◌++◌}
use Rattle.acts.specs.declared.act.Act.{Act}
use Rattle.acts.specs.declared.act.Act.TheVariants as act
use Rattle.acts.specs.declared.act.Event.TheVariants as event

-- The route of K is set, its points are reported in plus, and the lamp of its last signal burns.
abbrev pub cleared : List Act
cleared = act.Set 0 ∷ act.Tell (event.Report 2 0) ∷ act.Tell (event.Report 5 0) ∷ act.Tell (event.Lamp 3 1) ∷ []

-- Then control of the flank point is lost; it comes back; the route is cleared.
abbrev pub lost : List Act
lost = cleared ++ act.Tell (event.Report 5 2) ∷ []

abbrev pub found_again : List Act
found_again = lost ++ act.Tell (event.Report 5 0) ∷ []

abbrev pub cleared_again : List Act
cleared_again = found_again ++ act.Clear 0 ∷ []

-- Both routes are set, while the lamps of the signals 2 and 4 are dark; then the lamp of 4 burns.
abbrev pub dark : List Act
dark = act.Set 0 ∷ act.Set 1 ∷ []

abbrev pub prolonged : List Act
prolonged = dark ++ act.Tell (event.Lamp 4 1) ∷ []

-- The long run on K: its route is set, cleared and released again, and acts in between are refused, each for another reason.
abbrev pub long_run : List Act
long_run = act.Set 0 ∷ act.Tell (event.Report 2 0) ∷ act.Tell (event.Report 5 0) ∷ act.Tell (event.Lamp 3 1) ∷ act.Set 0
    ∷ act.Tell (event.Report 5 2) ∷ act.Tell (event.Report 5 0) ∷ act.Clear 0 ∷ act.Tell (event.Occupation 0 1) ∷ act.Release 0
    ∷ act.Tell (event.Occupation 0 0) ∷ act.Release 0 ∷ act.Clear 0 ∷ act.Tell (event.Report 1 0) ∷ act.Tell (event.Lamp 3 2)
    ∷ act.Tell (event.Occupation 7 1) ∷ act.Set 1 ∷ act.Set 255 ∷ []

-- Both routes of the ring are set, the lamp of signal 2 burns, and then it is dark again.
abbrev pub around : List Act
around = dark ++ act.Tell (event.Lamp 2 1) ∷ act.Tell (event.Lamp 2 0) ∷ []

-- Route 1 has derailer 3 off when route 0 is set; route 1 is released; route 0 is cleared.
abbrev pub denied : List Act
denied = act.Set 1 ∷ act.Set 0 ∷ []

abbrev pub freed : List Act
freed = denied ++ act.Release 1 ∷ []

abbrev pub granted_late : List Act
granted_late = freed ++ act.Clear 0 ∷ []

-- The points of K are reported, and no lamp burns.
abbrev pub lampless : List Act
lampless = act.Set 0 ∷ act.Tell (event.Report 2 0) ∷ act.Tell (event.Report 5 0) ∷ []

-- The point is reported and the end lamp burns; the lamp of the signal at the flank burns, and then it is dark.
abbrev pub unshielded : List Act
unshielded = act.Set 0 ∷ act.Tell (event.Report 1 0) ∷ act.Tell (event.Lamp 2 1) ∷ []

abbrev pub shielded : List Act
shielded = unshielded ++ act.Tell (event.Lamp 5 1) ∷ []

abbrev pub darkened : List Act
darkened = shielded ++ act.Tell (event.Lamp 5 0) ∷ []

-- The shunting route has derailer 3 off, point 6 in plus, and point 1 at its flank in plus.
abbrev pub shunted : List Act
shunted = act.Set 1 ∷ act.Tell (event.Report 3 1) ∷ act.Tell (event.Report 6 0) ∷ act.Tell (event.Report 1 0) ∷ []
