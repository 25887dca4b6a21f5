-- How a route comes into holds, and out of them.
use Rattle.std.specs.Prelude.{◌≡◌, ℕ, zero, suc, cond, Some, None, fold, Option}
use denote.Ref.{Bor}
use Rattle.layout.specs.declared.position.Position.{Position}
use Rattle.sheets.specs.declared.sheet.RouteSheet.{RouteSheet}
use Rattle.sheets.specs.Reading.{need_of, request_of, wanted_by}
use Rattle.holds.specs.declared.hold.Hold.{Hold}
use Rattle.holds.specs.declared.interlocking.Interlocking.{Interlocking}
use Rattle.holds.specs.declared.state.RouteState.TheVariants as state
use Rattle.holds.specs.Holds.{granted, left_by, open_to}
use Rattle.holds.specs.States.{waits_again}
use Rattle.holds.specs.Interlockings.{hold_of, state_of, with_hold, with_state}

-- The route r joins the hold of the element e, in a position.
abbrev pub joined_by : Interlocking → ℕ → ℕ → Position → Interlocking
joined_by i r e p = with_hold i e (granted (hold_of i e) r p)

-- It joins the hold in a position, if there is one.
abbrev pub joined_if_any : Interlocking → ℕ → ℕ → Option Position → Interlocking
joined_if_any i r e None = i
joined_if_any i r e (Some p) = joined_by i r e p

-- It joins the hold in the position that a choice gives, if any.
abbrev pub joined_as : (Interlocking → ℕ → Option Position) → ℕ → Interlocking → ℕ → Interlocking
joined_as choice r i e = joined_if_any i r e (choice i e)

-- A route so joins the holds of the elements that it wants, one after another.
abbrev pub wanted_joined : (Interlocking → ℕ → Option Position) → RouteSheet → ℕ → Interlocking → Interlocking
wanted_joined choice s r i = fold (joined_as choice r) i (wanted_by s)

-- What a closure answers is what a choice says.
abbrev pub AnswersBy : (Bor Interlocking → ℕ → Option Position → Type 0) → (Interlocking → ℕ → Option Position) → Type 0
AnswersBy answers choice = (i : Bor Interlocking) (e : ℕ) (p : Option Position) → answers i e p → p ≡ choice i.now e

-- The choice for needs: the position in which the route itself needs the element.
abbrev pub need_choice : RouteSheet → Interlocking → ℕ → Option Position
need_choice s i e = need_of s e

-- What a route itself needs, it holds.
abbrev pub needs_granted : RouteSheet → ℕ → Interlocking → Interlocking
needs_granted s r i = wanted_joined (need_choice s) s r i

-- A request may be granted if the element is held by nobody or in the position requested.
abbrev pub grantable : Hold → Option Position → Option Position
grantable h None = None
grantable h (Some p) = cond (open_to h p) (Some p) None

-- The choice for requests: the position in which the route requests the element, if it may be granted.
abbrev pub request_choice : RouteSheet → Interlocking → ℕ → Option Position
request_choice s i e = grantable (hold_of i e) (request_of s e)

-- What may be granted to a route is granted; else it is denied.
abbrev pub requests_granted : RouteSheet → ℕ → Interlocking → Interlocking
requests_granted s r i = wanted_joined (request_choice s) s r i

-- A route leaves the hold of an element.
abbrev pub take_out : Interlocking → ℕ → ℕ → Interlocking
take_out i r e = with_hold i e (left_by (hold_of i e) r)

-- A route leaves the holds of the first n elements.
unfoldable pub taken_out : Interlocking → ℕ → ℕ → Interlocking
taken_out i r zero = i
taken_out i r (suc n) = take_out (taken_out i r n) r n

-- A route is set: it waits, holds what it needs, and then has its requests granted where they may be.
abbrev pub taken_up : RouteSheet → ℕ → Interlocking → Interlocking
taken_up s r i = requests_granted s r (needs_granted s r (with_state i r state.Waiting))

-- A route is cleared: if dropped it waits again, and its requests are tried again.
abbrev pub tried_again : RouteSheet → ℕ → Interlocking → Interlocking
tried_again s r i = requests_granted s r (with_state i r (waits_again (state_of i r)))

-- A route is released: it is absent, and out of every hold.
abbrev pub given_up : ℕ → Interlocking → Interlocking
given_up r i = taken_out (with_state i r state.Absent) r 96
