-- An element record asks for as many bytes as its map says, and a route record for as many as its map and its counts say.
use Rattle.std.proofs.Common.{◌≡◌, ℕ, ◌&&◌, Bool, true, false, cond, leb, List, drop, [], ◌∷◌, Some, None, Ok, arith, length-drop, add_assoc}
use Rattle.std.proofs.lemmas.Bool.Decides.{nat_tests}
use Rattle.std.proofs.lemmas.List.{get_or-drop, drop-drop}
use Rattle.std.specs.Prelude.{is_some}
use Rattle.bits.specs.Bits.{bit}
use Rattle.faults.specs.declared.fault.Cause.TheVariants as cause
use Rattle.bounded.specs.Lists.{empty_of, pushed}
use Rattle.planbytes.specs.Bytes.{Read, and_then, byte_at, byte_in}
use Rattle.planbytes.specs.Fields.{read_if, number_if, join_at, join_if, kind_in, dual_in, sort_in, marks_in, element_at, numbers_at, numbers_if, class_in, route_at}
use Rattle.planbytes.specs.Items.{item_step, items_at}
use Rattle.planbytes.specs.Records.{width, element_size, byte_or_none, list_size, route_size}
use Rattle.planbytes.specs.Local.{Width, Local, wide_local, pure_local, next_local, made_local, times_local}
use Rattle.planbytes.specs.Singles.{Single, byte_single, tested_single, by_local}

in_single : (low high : ℕ) → Single (byte_in low high)
in_single low high = tested_single byte_at (λ b. leb low b && leb b high) cause.OutOfRange byte_single

field_local : {X : Type 0} (b : Bool) (w : Width) (f : Read X) → Local w f → Local (λ bs. cond b (w bs) 0) (read_if b f)
field_local true w f l = made_local w f Some l
field_local false w f l = pure_local None

number_if_local : (m place low high : ℕ) → Local (λ bs. width m place 1) (number_if m place low high)
number_if_local m place low high = field_local (bit m place) (λ bs. 1) (byte_in low high) (in_single low high).local

join_local : Local (λ bs. 2) join_at
join_local =
    next_local (λ bs. 1) (λ bs. 1) byte_at (λ e cs. and_then (byte_in 0 2 cs) (λ t ds. Ok (record { element = e; port = t }, ds))) byte_single.local
    (λ e. made_local (λ bs. 1) (byte_in 0 2) (λ t. record { element = e; port = t }) (in_single 0 2).local)

join_if_local : (m place : ℕ) → Local (λ bs. width m place 2) (join_if m place)
join_if_local m place = field_local (bit m place) (λ bs. 2) join_at join_local

numbers_local : {N : ℕ} (low high : ℕ) → Local (λ bs. list_size bs 0) (numbers_at {N = N} low high)
numbers_local {N} low high =
    by_local (λ n bs. n) (byte_in low high) (λ n. items_at {N = N} byte_at n (empty_of 0)) (in_single low high)
    (λ n. times_local (item_step {N = N} byte_at) (λ ns. made_local (λ bs. 1) byte_at (pushed ns) byte_single.local) n (empty_of 0))

numbers_if_local : {N : ℕ} (m place low high : ℕ) → Local (λ bs. width m place (list_size bs 0)) (numbers_if {N = N} m place low high)
numbers_if_local {N} m place low high = field_local (bit m place) (λ bs. list_size bs 0) (numbers_at {N = N} low high) (numbers_local low high)

pub element_local : Local (λ bs. element_size (byte_or_none bs 0)) element_at
element_local =
    wide_local _ (λ bs. element_size (byte_or_none bs 0)) element_at
    (by_local _ _ _ byte_single (λ m.
    next_local _ _ _ _ (number_if_local m 0 1 4) (λ k.
    next_local _ _ _ _ (join_if_local m 1) (λ a.
    next_local _ _ _ _ (join_if_local m 2) (λ b.
    next_local _ _ _ _ (join_if_local m 3) (λ c.
    next_local _ _ _ _ (number_if_local m 4 0 63) (λ n.
    next_local _ _ _ _ (number_if_local m 5 0 2) (λ d.
    next_local _ _ _ _ (number_if_local m 6 0 2) (λ s.
    made_local _ _ (λ w. record { kind = kind_in k; joins = a ∷ b ∷ c ∷ []; section = n; dual = dual_in d; sort = sort_in s; marks = marks_in w })
    (number_if_local m 7 1 3))))))))))
    (λ bs. omega arith)

-- A list takes as many bytes where the bytes before it are left out.
list_behind : (bs : List ℕ) (p : ℕ) → list_size (drop p bs) 0 ≡ list_size bs p
list_behind bs p = grind (arith, nat_tests, length-drop, get_or-drop)

pub route_local : Local (λ bs. route_size (byte_or_none bs 0) bs) route_at
route_local =
    wide_local _ (λ bs. route_size (byte_or_none bs 0) bs) route_at
    (by_local _ _ _ (in_single 0 15) (λ m.
    next_local _ _ _ _ (number_if_local m 0 1 1) (λ c.
    next_local _ _ _ _ (numbers_if_local m 1 3 24) (λ w.
    next_local _ _ _ _ (numbers_if_local m 2 1 8) (λ v.
    made_local _ _ (λ z. record { class = class_in c; path = w; overlap = v; zero_overlap = is_some z })
    (number_if_local m 3 1 1))))))
    (λ bs. simp (add_assoc, drop-drop, list_behind))
