-- Which routes of a plan stand after an act, and which dropped ones are still dropped.
use Rattle.std.proofs.Common.{List, length, refl, subst, le_refl}
use Rattle.std.proofs.lemmas.List.{take_all}
use Rattle.layout.specs.declared.drawing.Drawing.{Drawing}
use Rattle.sheets.specs.Sheets.{sheets_of}
use Rattle.plan.specs.Sound.{SoundPlan}
use Rattle.field.specs.Meaning.{Meaning}
use Rattle.acts.specs.declared.act.Act.{Act}
use Rattle.acts.specs.Answers.{answer}
use Rattle.runlaws.proofs.Coherent.{Coherent}
use Rattle.runlaws.proofs.Runs.{run_coherent}
use Rattle.runlaws.proofs.Standing as standing
use Rattle.safety.specs.Words.{run}
use Rattle.safety.specs.States.{StandsExactly, DroppedStays}
use Rattle.safety.proofs.PlanLawful.{plan_lawful}

module _ (d : Drawing) (sound : SoundPlan d) where
  pub whole_coherent : (m : Meaning) (acts : List Act) → Coherent (sheets_of d) (run d m acts)
  whole_coherent m acts =
      subst (λ (xs : List Act). Coherent (sheets_of d) (run d m xs)) (take_all (length acts) acts (le_refl (length acts)))
      (run_coherent (sheets_of d) (plan_lawful d sound) m acts (length acts))

  pub stands_exactly : StandsExactly d
  stands_exactly m acts a r =
      let t = sheets_of d in
      let s = run d m acts in
      standing.stands_unless t (plan_lawful d sound) s (whole_coherent m acts).sound.states a (answer t s a) refl r

pub dropped_stays : (d : Drawing) → SoundPlan d → DroppedStays d
dropped_stays d sound s a r = standing.dropped_unless (sheets_of d) s a (answer (sheets_of d) s a) refl r
