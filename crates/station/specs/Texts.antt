-- What an entry of a journal reads.
use Rattle.std.specs.Prelude.{ℕ, List, ◌++◌, Some, None, Option, codes}
use Rattle.refusals.specs.declared.refusal.Refusal.{Refusal}
use Rattle.refusals.specs.Texts.{text_of}
use Rattle.acts.specs.Texts.{act_text}
use Rattle.station.specs.declared.journal.Entry.{Entry}

-- That an act was accepted, or how it was refused.
abbrev pub answer_text : Option Refusal → List ℕ
answer_text None = codes "accepted"
answer_text (Some refusal) = text_of refusal

-- An act, and its answer.
abbrev pub entry_text : Entry → List ℕ
entry_text e = act_text e.act ++ (codes ": " ++ answer_text e.refusal)
