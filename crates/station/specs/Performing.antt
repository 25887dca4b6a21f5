-- What it is to perform an act in an open station.
use Rattle.std.specs.Prelude.{◌≡◌, Result, IfErr}
use Rattle.field.specs.Meaning.{Meaning}
use Rattle.refusals.specs.declared.refusal.Refusal.{Refusal}
use Rattle.sheets.specs.Sheets.{sheets_of}
use Rattle.acts.specs.declared.act.Act.{Act}
use Rattle.acts.specs.Situations.{situation_of}
use Rattle.acts.specs.Performing as acting
use Rattle.station.specs.declared.open_station.OpenStation.{OpenStation}

-- From one state of the station to the next an act is performed, as the sheets of its plan say, and the plan is the same. Where the act is
-- refused, all of the station is as it was, the field itself and not only what it means.
abbrev pub Performs : {F X : Type 0} → (F → Meaning) → OpenStation F → OpenStation F → Act → Result X Refusal → Type 0
Performs meaning before after a result =
    acting.Performs (sheets_of before.plan.drawing) (situation_of meaning before.yard) (situation_of meaning after.yard) a result
    × (after.plan ≡ before.plan)
    × IfErr result (λ refusal. after ≡ before)
