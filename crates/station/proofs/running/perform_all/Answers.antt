use Rattle.std.proofs.Common.{◌≡◌, ◌<◌, ◌≤◌, length, get_or, None, Option, sym, ap, ◌∙◌, rules}
use Rattle.layout.specs.declared.drawing.Drawing.{Drawing}
use Rattle.refusals.specs.declared.refusal.Refusal.{Refusal}
use Rattle.sheets.specs.Sheets.{sheets_of}
use Rattle.acts.specs.declared.act.Act.TheVariants as act
use Rattle.acts.specs.Situations.{situation, situation_of, opened}
use Rattle.acts.specs.Answers.{answer}
use Rattle.acts.specs.Acts.{performed}
use Rattle.plan.specs.declared.plan.Plan.{Plan}
use Rattle.plan.proofs.PlansExact.{plan_is_sound}
use Rattle.safety.proofs.PlanLaw.{plan_law}
use Rattle.safety.proofs.StatesExact.{stands_exactly}
use Rattle.safety.proofs.AspectsExact.{aspects_exactly}
use Rattle.safety.proofs.HoldsExact.{holds_exactly}
use Rattle.safety.proofs.OrdersExact.{orders_exactly}
use Rattle.safety.proofs.GrantsExact.{grants_exactly}
use Rattle.station.specs.declared.journal.Entry.{Entry}
use Rattle.station.specs.Runs.{acts_in, answered_in, answered}
use Rattle.station.proofs.Journaled.{ends_more, answers_more, answers_all}
use Rattle.station.proofs.running.perform_all.Goals as goal

pub loop-entry-preserved : goal.loop-entry-preserved
loop-entry-preserved g c =
    let now = c.loop-entry.station in
    let d = c.open-station.result.plan.drawing in
    let s = situation_of g.F.Field.meaning now.yard in
    let journal = c.loop-entry.journal in
    let k = c.loop-entry.entry-index in
    let blank : Entry = record { act = act.Set 0; refusal = None } in
    let entry = get_or journal k blank in
    let done = c.perform.ensures.performed in
    let same : now.plan.drawing ≡ d = ap (λ (plan : Plan). plan.drawing) c.loop-entry.invariant.0 in
    let told : c.err-entry.result ≡ answer (sheets_of d) s entry.act =
    c.err-entry.ensures.value ∙ (done.0.0 ∙ ap (λ (x : Drawing). answer (sheets_of x) s entry.act) same) in
    let with_answer : Option Refusal → Entry = λ x. record { act = entry.act; refusal = x } in
    let is : with_answer c.err-entry.result ≡ answered_in d s entry = ap with_answer told in
    let next = done.0.1 ∙ ap (λ (x : Drawing). performed (sheets_of x) s entry.act) same in
    let below : k < length journal = search rules in (
      done.1 ∙ c.loop-entry.invariant.0,
      ends_more d s _ journal k blank (with_answer c.err-entry.result) below is next ∙ c.loop-entry.invariant.1,
      answers_more d s _ journal k blank (with_answer c.err-entry.result) below is next ∙ c.loop-entry.invariant.2,
    )

pub returns-clause-answers : goal.returns-clause-answers
returns-clause-answers g c =
    let first = c.open-station.result in
    let same : first.plan.drawing ≡ c.args.plan.drawing = ap (λ (p : Plan). p.drawing) c.open-station.ensures.plan in
    let begins : situation_of g.F.Field.meaning first.yard ≡ opened (g.F.Field.meaning c.args.field) =
    λ i. situation (c.open-station.ensures.interlocking i) (g.F.Field.meaning (c.open-station.ensures.field i)) in
    let past : length c.loop-entry.journal ≤ c.loop-entry.entry-index = search rules in
    sym (answers_all first.plan.drawing (situation_of g.F.Field.meaning c.loop-entry.station.yard) c.loop-entry.journal c.loop-entry.entry-index past)
    ∙ (c.loop-entry.invariant.2 ∙ λ i. answered (same i) (begins i) c.args.journal.now)

pub returns-clause-law : goal.returns-clause-law
returns-clause-law g c =
    let d = c.args.plan.drawing in
    plan_law d (plan_is_sound c.args.plan) (g.F.Field.meaning c.args.field) (acts_in c.args.journal.now)

pub returns-clause-stands : goal.returns-clause-stands
returns-clause-stands g c = stands_exactly c.args.plan.drawing (plan_is_sound c.args.plan)

pub returns-clause-aspects : goal.returns-clause-aspects
returns-clause-aspects g c = aspects_exactly _ (plan_is_sound c.args.plan)

pub returns-clause-holds : goal.returns-clause-holds
returns-clause-holds g c = holds_exactly _ (plan_is_sound c.args.plan)

pub returns-clause-orders : goal.returns-clause-orders
returns-clause-orders g c = orders_exactly _ (plan_is_sound c.args.plan)

pub returns-clause-grants : goal.returns-clause-grants
returns-clause-grants g c = grants_exactly _ (plan_is_sound c.args.plan)
