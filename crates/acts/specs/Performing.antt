-- What it is to perform an act.
use Rattle.std.specs.Prelude.{◌≡◌, Some, None, Option, Result}
use Rattle.refusals.specs.declared.refusal.Refusal.{Refusal}
use Rattle.std.specs.Result.{result_err}
use Rattle.sheets.specs.declared.sheet.Sheets.{Sheets}
use Rattle.acts.specs.declared.act.Act.{Act}
use Rattle.acts.specs.Situations.{Situation}
use Rattle.acts.specs.Answers.{answer}
use Rattle.acts.specs.Acts.{after, performed}

-- A refused act changes nothing; an accepted one does its own step, and nothing has settled yet.
abbrev pub stepped_unless : Option Refusal → Sheets → Situation → Act → Situation
stepped_unless None t s a = after t s a
stepped_unless (Some x) t s a = s

-- From one situation to the next an act does its own step: its result is the answer that it gets in the first.
abbrev pub Steps : {X : Type 0} → Sheets → Situation → Situation → Act → Result X Refusal → Type 0
Steps t s next a result = (result_err result ≡ answer t s a) × (next ≡ stepped_unless (answer t s a) t s a)

-- From one situation to the next an act is performed: its result is the answer that it gets in the first, and the second is what it makes of the first.
abbrev pub Performs : {X : Type 0} → Sheets → Situation → Situation → Act → Result X Refusal → Type 0
Performs t s next a result = (result_err result ≡ answer t s a) × (next ≡ performed t s a)
