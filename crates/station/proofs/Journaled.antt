-- One entry more of a journal is answered, and what is left comes to the same end.
use Rattle.std.proofs.Common.{◌≡◌, ℕ, ◌+◌, ◌<◌, ◌≤◌, List, [], ◌∷◌, ◌++◌, length, get_or, take, drop, set, fold, refl, append_assoc, append-nil, arith}
use Rattle.std.proofs.lemmas.List.{drop_more, drop_all, drop-set-lt, take_all, take_more_set}
use Rattle.layout.specs.declared.drawing.Drawing.{Drawing}
use Rattle.sheets.specs.Sheets.{sheets_of}
use Rattle.acts.specs.Situations.{Situation}
use Rattle.acts.specs.Acts.{performed}
use Rattle.station.specs.declared.journal.Entry.{Entry}
use Rattle.station.specs.Runs.{acts_in, answered_in, answered}

-- what is left of a run
abbrev pub ends : Drawing → Situation → List Entry → Situation
ends d s journal = fold (performed (sheets_of d)) s (acts_in journal)

answered_none : (d : Drawing) (s : Situation) → answered d s [] ≡ []
unfolding answered
answered_none d s = refl

answered_more : (d : Drawing) (s : Situation) (e : Entry) (journal : List Entry)
    → answered d s (e ∷ journal) ≡ answered_in d s e ∷ answered d (performed (sheets_of d) s e.act) journal
unfolding answered
answered_more d s e journal = refl

module _ (d : Drawing) (s after : Situation) (journal : List Entry) (k : ℕ) (blank new : Entry) (below : k < length journal)
    (is : new ≡ answered_in d s (get_or journal k blank)) (next : after ≡ performed (sheets_of d) s (get_or journal k blank).act) where
  rest : drop (k + 1) (set journal k new) ≡ drop (k + 1) journal
  rest = drop-set-lt (k + 1) journal k new (omega arith)

  pub ends_more : ends d after (drop (k + 1) (set journal k new)) ≡ ends d s (drop k journal)
  ends_more = let entry = drop_more journal k blank below in rw (rest, next, entry)

  pub answers_more : take (k + 1) (set journal k new) ++ answered d after (drop (k + 1) (set journal k new)) ≡ take k journal ++ answered d s (drop k journal)
  answers_more =
      let front = take_more_set journal k new below in
      let entry = drop_more journal k blank below in
      let answer = answered_more d s (get_or journal k blank) (drop (k + 1) journal) in
      let joined = append_assoc (take k journal) (new ∷ []) (answered d after (drop (k + 1) journal)) in
      cc (rest, front, entry, answer, joined, is, next)

-- once the journal is at its end
pub answers_all :
    (d : Drawing) (s : Situation) (journal : List Entry) (k : ℕ) → length journal ≤ k → take k journal ++ answered d s (drop k journal) ≡ journal
answers_all d s journal k past =
    let all = drop_all k journal past in
    let front = take_all k journal past in
    cc (all, front, answered_none d s, append-nil (take k journal))
