-- Every act on a checked plan sends exactly the orders that are due, and each does to its element what an order does.
use Rattle.std.proofs.Common.{◌≡◌, ℕ, true, false, ◌≢◌, Some, None, Option, sym, refl, ap, ◌∙◌, subst, ⊎_elim, arith}
use Rattle.std.proofs.lemmas.Bool.{cases_Bool}
use Rattle.layout.specs.declared.drawing.Drawing.{Drawing}
use Rattle.layout.specs.declared.position.Position.{Position}
use Rattle.layout.specs.declared.position.Position.TheVariants as position
use Rattle.walks.specs.Exactly.{In}
use Rattle.refusals.specs.declared.refusal.Refusal.{Refusal}
use Rattle.sheets.specs.declared.sheet.Sheets.{Sheets}
use Rattle.sheets.specs.Reading.{element_of, moves}
use Rattle.sheets.specs.Sheets.{sheets_of}
use Rattle.plan.specs.Sound.{SoundPlan}
use Rattle.sheetlaws.specs.Routes.{elements_of}
use Rattle.field.specs.Devices.{report_after}
use Rattle.field.specs.Meaning.{Meaning, Sized, device_of, report_of, blocked_of, burning_of, order_of, occupied_of}
use Rattle.holds.specs.declared.hold.Hold.{Hold}
use Rattle.holds.specs.declared.interlocking.Interlocking.{Interlocking}
use Rattle.holds.specs.RouteSets.{contains}
use Rattle.holds.specs.Interlockings.{hold_of}
use Rattle.acts.specs.declared.act.Act.{Act}
use Rattle.acts.specs.declared.act.Act.TheVariants as act
use Rattle.acts.specs.declared.act.Event.{Event}
use Rattle.acts.specs.Situations.{Situation}
use Rattle.acts.specs.Answers.{answer}
use Rattle.acts.specs.Acts.{stepped, after, unless, performed, step_orders, orders_unless}
use Rattle.acts.specs.Orders.{due, sent, Order, order_to, orders}
use Rattle.runlaws.proofs.Stepped.{hold_is, meant_is}
use Rattle.runlaws.proofs.Sending.{due_meant, due_told, orders_due, due_orders, order_done, section_kept, undue_kept, blocks_kept, lamps_kept, end_sized}
use Rattle.safety.specs.Words.{run, SetsOrClears, sets, clears, Orders}
use Rattle.safety.specs.Ordering.{Due, OrdersExactly}
use Rattle.safety.proofs.Passed.{moves_moved, moved_moves}
use Rattle.safety.proofs.Told.{kind_of_each, section_of_each, moved_low}

-- an order to the position that is not reported gives the report up
report_gone : (o : Option Position) (p : Position) → o ≢ Some p → report_after o p ≡ None
report_gone None p away = refl
report_gone (Some position.Plus) position.Plus away = absurd (away refl)
report_gone (Some position.Plus) position.Minus away = refl
report_gone (Some position.Minus) position.Plus away = refl
report_gone (Some position.Minus) position.Minus away = absurd (away refl)

abbrev order : ℕ → Position → Order
order e p = record { element = e; position = p }

-- a set and a clear send the orders of their route
module _ (t : Sheets) (s : Situation) (r : ℕ) where
  own_orders : (a : Act) → SetsOrClears r a → step_orders t s a ≡ orders t (stepped t s.inner a) r s.meant 96
  own_orders a sets = refl
  own_orders a clears = refl

  own_sent : (a : Act) → SetsOrClears r a → (after t s a).meant ≡ sent t (stepped t s.inner a) r s.meant 96
  own_sent a sets = refl
  own_sent a clears = refl

module _ (t : Sheets) (s : Situation) where
  -- every order is of a set or a clear that is accepted
  ordering : (a : Act) (o : Option Refusal) → answer t s a ≡ o → (x : Order) → In x (orders_unless o (step_orders t s a))
      → (r : ℕ) × SetsOrClears r a × (o ≡ None)
  ordering (act.Set r) None h x i = (r, sets, refl)
  ordering (act.Clear r) None h x i = (r, clears, refl)
  ordering (act.Release r) None h x i = absurd i
  ordering (act.Tell v) None h x i = absurd i
  ordering a (Some y) h x i = absurd i

  -- the field after an act that is no event is as it was, or as the orders of its route leave it
  untold_field :
      (P : Meaning → Type 0) (a : Act) (o : Option Refusal) → ((v : Event) → a ≢ act.Tell v) → P s.meant
      → ((r : ℕ) → SetsOrClears r a → o ≡ None → P (sent t (stepped t s.inner a) r s.meant 96)) → P (unless o t s (after t s a)).meant
  untold_field P (act.Set r) None untold p f = f r sets refl
  untold_field P (act.Clear r) None untold p f = f r clears refl
  untold_field P (act.Release r) None untold p f = p
  untold_field P (act.Tell v) None untold p f = absurd (untold v refl)
  untold_field P a (Some x) untold p f = p

module _ (d : Drawing) (sound : SoundPlan d) (s : Situation) (a : Act) (e : ℕ) where
  module _ (p : Position) where
    orders_meant : Orders d s a e p → Due d s a e p
    orders_meant i =
        let t = sheets_of d in
        let from = ordering t s a (answer t s a) refl (order e p) i in
        let r = from.0 in
        let j = stepped t s.inner a in
        let own : In (order e p) (orders t j r s.meant 96)
        = subst (In (order e p)) (own_orders t s r a from.1) (subst (λ o. In (order e p) (orders_unless o (step_orders t s a))) from.2 i) in
        let one = orders_due t j r s.meant 96 (order e p) own in
        let when = due_meant (element_of t e) j r s.meant e one.0 in
        let hold = hold_is t s a from.2 e in
        record {
          route = r;
          asked = from.1;
          accepted = from.2;
          moved = moves_moved (elements_of d) e (sym (ap moves (kind_of_each d sound e)) ∙ when.moved);
          held = (ap (λ (x : Hold). contains x.routes r) hold ∙ when.held, ap (λ (x : Hold). x.position) hold ∙ sym one.1);
          elsewhere = λ is. when.elsewhere (is ∙ ap Some one.1);
          free = λ x lies. when.free x (section_of_each d sound e ∙ lies);
          unblocked = when.unblocked;
        }

    module _ (x : Due d s a e p) where
      abbrev route_sets : Interlocking
      route_sets = stepped (sheets_of d) s.inner a

      position_is : (hold_of route_sets e).position ≡ p
      position_is = sym (ap (λ (h : Hold). h.position) (hold_is (sheets_of d) s a x.accepted e)) ∙ x.held.1

      due_at : due (element_of (sheets_of d) e) route_sets x.route s.meant e ≡ true
      due_at =
          due_told (element_of (sheets_of d) e) route_sets x.route s.meant e
          (record {
            moved = ap moves (kind_of_each d sound e) ∙ moved_moves (elements_of d) e x.moved;
            held = sym (ap (λ (h : Hold). contains h.routes x.route) (hold_is (sheets_of d) s a x.accepted e)) ∙ x.held.0;
            elsewhere = λ is. x.elsewhere (is ∙ ap Some position_is);
            free = λ y lies. x.free y (sym (section_of_each d sound e) ∙ lies);
            unblocked = x.unblocked;
          })

      orders_told : Orders d s a e p
      orders_told =
          let t = sheets_of d in
          let here : In (order_to route_sets e) (orders t route_sets x.route s.meant 96)
          = due_orders t route_sets x.route s.meant 96 e (moved_low d sound e x.moved) due_at in
          subst (λ o. In (order e p) (orders_unless o (step_orders t s a))) (sym x.accepted)
          (subst (In (order e p)) (sym (own_orders t s x.route a x.asked))
          (subst (λ (q : Position). In (order e q) (orders t route_sets x.route s.meant 96)) position_is here))

      order_meant : Sized s.meant → (order_of (performed (sheets_of d) s a).meant e ≡ Some p) × (report_of (performed (sheets_of d) s a).meant e ≡ None)
      order_meant sized =
          let t = sheets_of d in
          let done = order_done t route_sets x.route s.meant sized 96 e (moved_low d sound e x.moved) (omega arith) due_at in
          let is = meant_is t s a x.accepted ∙ own_sent t s x.route a x.asked in (
            ap (λ (m : Meaning). order_of m e) is ∙ (done.0 ∙ ap Some position_is),
            ap (λ (m : Meaning). report_of m e) is
                ∙ (done.1 ∙ (ap (report_after (report_of s.meant e)) position_is ∙ report_gone (report_of s.meant e) p x.elsewhere)),
          )

  -- where no order goes, the field means what it meant
  module _ (untold : (v : Event) → a ≢ act.Tell v) where
    others_kept : ((p : Position) → Orders d s a e p → ⊥) → device_of (performed (sheets_of d) s a).meant e ≡ device_of s.meant e
    others_kept none =
        let t = sheets_of d in
        let j = stepped t s.inner a in
        untold_field t s (λ (m : Meaning). device_of m e ≡ device_of s.meant e) a (answer t s a) untold refl
        (λ r asked accepted.
        let b = due (element_of t e) j r s.meant e in
        undue_kept t j r s.meant 96 e
        (⊎_elim
        (λ (y : b ≡ true).
        let moved = moves_moved (elements_of d) e (sym (ap moves (kind_of_each d sound e)) ∙ (due_meant (element_of t e) j r s.meant e y).moved) in
        absurd
        (none (hold_of j e).position
        (subst (λ o. In (order_to j e) (orders_unless o (step_orders t s a))) (sym accepted)
        (subst (In (order_to j e)) (sym (own_orders t s r a asked)) (due_orders t j r s.meant 96 e (moved_low d sound e moved) y)))))
        (λ (f : b ≡ false). f)
        (cases_Bool b)))

pub orders_exactly : (d : Drawing) → SoundPlan d → OrdersExactly d
orders_exactly d sound m sized acts a =
    let t = sheets_of d in
    let s = run d m acts in
    let j = stepped t s.inner a in
    let o = answer t s a in
    record {
      sent = λ e p. (orders_meant d sound s a e p, orders_told d sound s a e p);
      standing = λ e p i. (order_meant d sound s a e p (orders_meant d sound s a e p i) (end_sized t m acts sized)).0;
      given_up = λ e p i. (order_meant d sound s a e p (orders_meant d sound s a e p i) (end_sized t m acts sized)).1;
      others = λ untold e. others_kept d sound s a e untold;
      blocks = λ untold e.
          untold_field t s (λ (n : Meaning). blocked_of n e ≡ blocked_of s.meant e) a o untold refl
          (λ r asked accepted. blocks_kept t j r s.meant 96 e);
      lamps = λ untold e.
          untold_field t s (λ (n : Meaning). burning_of n e ≡ burning_of s.meant e) a o untold refl
          (λ r asked accepted. lamps_kept t j r s.meant 96 e);
      sections = λ untold x.
          untold_field t s (λ (n : Meaning). occupied_of n x ≡ occupied_of s.meant x) a o untold refl
          (λ r asked accepted. section_kept t j r s.meant 96 x);
    }
