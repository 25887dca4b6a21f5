-- What each event and each act reads.
use Rattle.std.specs.Prelude.{ℕ, List, ◌++◌, codes, decimal}
use Rattle.acts.specs.declared.act.Act.{Act}
use Rattle.acts.specs.declared.act.Act.TheVariants as act
use Rattle.acts.specs.declared.act.Event.{Event}
use Rattle.acts.specs.declared.act.Event.TheVariants as event

-- An event has a name, the number of an element or a section, and a value.
abbrev pub event_text : Event → List ℕ
event_text (event.Report e v) = codes "report " ++ (decimal e ++ (codes " " ++ decimal v))
event_text (event.Block e v) = codes "block " ++ (decimal e ++ (codes " " ++ decimal v))
event_text (event.Lamp e v) = codes "lamp " ++ (decimal e ++ (codes " " ++ decimal v))
event_text (event.Occupation x v) = codes "occupy " ++ (decimal x ++ (codes " " ++ decimal v))

-- An act on a route has a name and the number of the route; what is told reads as the event.
abbrev pub act_text : Act → List ℕ
act_text (act.Set r) = codes "set " ++ decimal r
act_text (act.Clear r) = codes "clear " ++ decimal r
act_text (act.Release r) = codes "release " ++ decimal r
act_text (act.Tell v) = event_text v
