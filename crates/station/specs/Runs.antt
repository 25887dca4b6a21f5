-- A journal of acts, and the answers that a run writes into it.
use Rattle.std.specs.Prelude.{List, [], ◌∷◌, map}
use Rattle.layout.specs.declared.drawing.Drawing.{Drawing}
use Rattle.sheets.specs.Sheets.{sheets_of}
use Rattle.acts.specs.declared.act.Act.{Act}
use Rattle.acts.specs.Situations.{Situation}
use Rattle.acts.specs.Answers.{answer}
use Rattle.acts.specs.Acts.{performed}
use Rattle.station.specs.declared.journal.Entry.{Entry}

abbrev pub act_of : Entry → Act
act_of e = e.act

-- The acts of a journal, in their order.
abbrev pub acts_in : List Entry → List Act
acts_in journal = map act_of journal

-- An entry with the answer that its act gets in a situation.
abbrev pub answered_in : Drawing → Situation → Entry → Entry
answered_in d s e = record { act = e.act; refusal = answer (sheets_of d) s e.act }

-- A journal with every answer in its place: each act is answered in the situation that the ones before it left.
unfoldable pub answered : Drawing → Situation → List Entry → List Entry
answered d s [] = []
answered d s (e ∷ journal) = answered_in d s e ∷ answered d (performed (sheets_of d) s e.act) journal
