-- After every run a route of a checked plan holds what it needs while it stands, and nothing but what it needs or requests.
use Rattle.std.proofs.Common.{◌≡◌, ℕ, true, false, Some, ap, ◌∙◌, inl, inr, ⊎_elim}
use Rattle.std.proofs.lemmas.Bool.{cases_Bool, both_ways}
use Rattle.layout.specs.declared.drawing.Drawing.{Drawing}
use Rattle.sheets.specs.Reading.{route_sheet, need_of, request_of}
use Rattle.sheets.specs.Sheets.{sheets_of}
use Rattle.plan.specs.Sound.{SoundPlan}
use Rattle.sheetlaws.specs.Routes.{HasRoute}
use Rattle.holds.specs.States.{stands}
use Rattle.holds.specs.Interlockings.{hold_of, held_by, state_of}
use Rattle.acts.specs.Situations.{Situation}
use Rattle.runlaws.proofs.Coherent.{Coherent}
use Rattle.runlaws.proofs.Shown.{end_coherent}
use Rattle.runlaws.proofs.Holding.{HeldAsWanted, held_as_wanted}
use Rattle.safety.specs.Words.{run, Standing}
use Rattle.safety.specs.Holding.{Holding, HoldsExactly}
use Rattle.safety.proofs.PlanLawful.{route_known, plan_lawful}
use Rattle.safety.proofs.SetExact.{need_told, need_meant}
use Rattle.safety.proofs.ReadyExact.{request_meant}

-- what is held is held by a route that stands
pub held_stands : (d : Drawing) (s : Situation) → Coherent (sheets_of d) s → (r e : ℕ) → held_by s.inner r e ≡ true → Standing s r
held_stands d s c r e held =
    let up = stands (state_of s.inner r) in
    ⊎_elim
    (λ (t : up ≡ true). t)
    (λ (f : up ≡ false). absurd (both_ways (held_by s.inner r e) (c.sound.absent r e f) held))
    (cases_Bool up)

module _ (d : Drawing) (sound : SoundPlan d) (s : Situation) (c : Coherent (sheets_of d) s) (wanted : HeldAsWanted (sheets_of d) s.inner) (r : ℕ) where
  known : Standing s r → HasRoute d r
  known st = route_known d sound r (c.sound.routes r st)

  holding : Holding d s r
  holding = record {
    needed = λ st e p n. c.sound.held r e p st (need_told d sound r e p (known st) n);
    only = λ e p h.
        let st : Standing s r = held_stands d s c r e h.0 in
        let sheet = route_sheet (sheets_of d) r in
        let position = (hold_of s.inner e).position in (
          st,
          ⊎_elim
              (λ (n : need_of sheet e ≡ Some position). inl (need_meant d sound r e p (known st) (n ∙ ap Some h.1)))
              (λ (q : request_of sheet e ≡ Some position). inr (request_meant d sound s r (known st) e p (q ∙ ap Some h.1)))
              (wanted r e h.0),
        );
  }

pub holds_exactly : (d : Drawing) → SoundPlan d → HoldsExactly d
holds_exactly d sound m acts =
    let t = sheets_of d in
    holding d sound (run d m acts) (end_coherent t (plan_lawful d sound) m acts) (held_as_wanted t m acts)
