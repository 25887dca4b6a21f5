-- A chain of signals that begins at no signal never comes to a port twice, so it ends before it is cut short.
use Rattle.std.proofs.Common.{◌≡◌, ℕ, zero, suc, ◌+◌, ◌-◌, ◌*◌, ◌<◌, ◌≤◌, Bool, true, false, ◌⊎◌, List, length, sym, refl, ap, ◌∙◌, inl, inr, ⊎_elim, suc-add, zero-add, arith}
use Rattle.std.proofs.lemmas.Bool.{and_parts, both_ways, cases_Bool}
use Rattle.layout.specs.declared.element.Element.{Element}
use Rattle.layout.specs.declared.element.Join.{Join}
use Rattle.layout.specs.declared.kind.Kind.{Kind}
use Rattle.layout.specs.declared.kind.Kind.TheVariants as kind
use Rattle.layout.specs.Kinds.{ports, is_signal}
use Rattle.layout.specs.Ports.{at}
use Rattle.layout.specs.Sound.{SoundElements}
use Rattle.flank.specs.Signals.{far_end, across, onward, passes, along, signal_ports}
use Rattle.flank.proofs.Turns.{along_suc}
use Rattle.walks.proofs.Net.{Port, inside, back}
use Rattle.walks.proofs.Pigeon.{pigeon}

two_ports : (k : Kind) → is_signal k ≡ true → ports k ≡ 2
two_ports kind.Track e = cc
two_ports kind.Point e = cc
two_ports kind.Derailer e = cc
two_ports kind.Signal e = refl
two_ports kind.PlanEnd e = cc

pub same_port : (x y : Join) → x.element ≡ y.element → x.port ≡ y.port → x ≡ y
same_port x y a b = λ i. record { element = a i; port = b i }

-- a port that begins a chain, or that the chain comes to
pub data Chain (all : Bool) (es : List Element) : Join → Type 0 where
  starts : (p : Join) → Port es p → is_signal (at es p.element).kind ≡ false → Chain all es (far_end es p)
  goes : {q : Join} → Chain all es q → passes all es q ≡ true → Chain all es (onward es q)

module _ (all : Bool) (es : List Element) (sound : SoundElements es) (few : length es ≤ 96) where
  signal_of : (q : Join) → passes all es q ≡ true → is_signal (at es q.element).kind ≡ true
  signal_of q e = (and_parts _ _ e).0

  pub low : (q : Join) → Port es q → passes all es q ≡ true → q.port < 2
  low q h e = let n = two_ports _ (signal_of q e) in omega arith

  pub across_port : (q : Join) → Port es q → passes all es q ≡ true → Port es (across q)
  across_port q h e = (h.0, (let n = two_ports _ (signal_of q e) in omega arith))

  pub onward_port : (q : Join) → Port es q → passes all es q ≡ true → Port es (onward es q)
  onward_port q h e = inside es sound (across q) (across_port q h e)

  pub chain_port : {q : Join} → Chain all es q → Port es q
  chain_port (starts p h e) = inside es sound p h
  chain_port (goes {q} c e) = onward_port q (chain_port c) e

  far_apart : (x y : Join) → Port es x → Port es y → far_end es x ≡ far_end es y → x ≡ y
  far_apart x y h k e = sym (back es sound x h) ∙ (ap (far_end es) e ∙ back es sound y k)

  onward_apart : (x y : Join) → Port es x → Port es y → passes all es x ≡ true → passes all es y ≡ true → onward es x ≡ onward es y → x ≡ y
  onward_apart x y h k a b e =
      let s = far_apart (across x) (across y) (across_port x h a) (across_port y k b) e in
      let l = low x h a in
      let m = low y k b in
      let p : 1 - x.port ≡ 1 - y.port = ap (λ (j : Join). j.port) s in
      same_port x y (ap (λ (j : Join). j.element) s) (omega arith)

  abbrev iter : ℕ → Join → Join
  iter zero q = q
  iter (suc n) q = onward es (iter n q)

  iter_front : (n : ℕ) (q : Join) → iter n (onward es q) ≡ iter (suc n) q
  iter_front zero q = refl
  iter_front (suc n) q = ap (onward es) (iter_front n q)

  iter_add : (m n : ℕ) (q : Join) → iter m (iter n q) ≡ iter (m + n) q
  iter_add zero n q = ap (λ k. iter k q) (sym (zero-add n))
  iter_add (suc m) n q = ap (onward es) (iter_add m n q) ∙ ap (λ k. iter k q) (sym (suc-add m n))

  -- the chain passes the ports before the n-th
  Going : ℕ → Join → Type 0
  Going n q = (k : ℕ) → k < n → passes all es (iter k q) ≡ true

  chain_iter : {q : Join} → Chain all es q → (n : ℕ) → Going n q → Chain all es (iter n q)
  unfolding Going
  chain_iter c zero g = c
  chain_iter c (suc n) g = goes (chain_iter c n (λ k h. g k (omega arith))) (g n (omega arith))

  no_return : {q : Join} → Chain all es q → (n : ℕ) → Going (suc n) q → iter (suc n) q ≡ q → ⊥
  unfolding Going
  no_return (starts p h e) n g r =
      let x : Join = iter n (far_end es p) in
      let gx : passes all es x ≡ true = g n (omega arith) in
      let cx : Chain all es x = chain_iter (starts p h e) n (λ k h. g k (omega arith)) in
      let s : across x ≡ p = far_apart (across x) p (across_port x (chain_port cx) gx) h r in
      let t : x.element ≡ p.element = ap (λ (j : Join). j.element) s in
      both_ways _ e (rw t at (signal_of x gx))
  no_return (goes {q} c e) n g r =
      let x : Join = iter (suc n) q in
      let front : iter n (onward es q) ≡ x = iter_front n q in
      let gx : passes all es x ≡ true = rw front at (g n (omega arith)) in
      let g' : Going (suc n) q = λ k. elim k as (λ k. k < suc n → passes all es (iter k q) ≡ true) [ zero ↦ λ _. e | suc k ↦ λ h. rw (iter_front k q) at (g k (omega arith)) ] in
      let cx : Chain all es x = chain_iter c (suc n) g' in
      no_return c n g' (onward_apart x q (chain_port cx) (chain_port c) gx e (sym (ap (onward es) front) ∙ r))

  key : Join → ℕ
  key q = 2 * q.element + q.port

  iter_apart : {q : Join} → Chain all es q → (n : ℕ) → Going n q → (i j : ℕ) → i < j → j < n → iter i q ≡ iter j q → ⊥
  unfolding Going
  iter_apart {q} c n g i j h k e =
      let d : ℕ = j - i - 1 in
      let n' : suc d + i ≡ j = omega arith in
      let g' : Going (suc d) (iter i q) = λ m l. rw (iter_add m i q) (g (m + i) (omega arith)) in
      no_return (chain_iter c i (λ m l. g m (omega arith))) d g' (iter_add (suc d) i q ∙ (ap (λ m. iter m q) n' ∙ sym e))

  -- no chain passes more ports than 96 signals have
  ends_soon : {q : Join} → Chain all es q → Going (suc signal_ports) q → ⊥
  unfolding Going key
  ends_soon {q} c g =
      let port_at : (i : ℕ) → i < suc signal_ports → Port es (iter i q) = λ i h. chain_port (chain_iter c i (λ m l. g m (omega arith))) in
      let low_at : (i : ℕ) → i < suc signal_ports → (iter i q).port < 2 = λ i h. low (iter i q) (port_at i h) (g i h) in
      let below : (i : ℕ) → i < suc signal_ports → key (iter i q) < signal_ports = λ i h. omega (arith, few, (port_at i h).0, low_at i h) in
      let apart : (i j : ℕ) → i < j → j < suc signal_ports → key (iter i q) ≡ key (iter j q) → ⊥ =
      λ i j h k e.
      let a = low_at i (omega arith) in
      let b = low_at j k in
      iter_apart c (suc signal_ports) g i j h k (same_port (iter i q) (iter j q) (omega arith) (omega arith))
      in
      let over : suc signal_ports ≤ signal_ports = pigeon (suc signal_ports) signal_ports (λ i. key (iter i q)) below apart in
      omega arith

  along_or : (n : ℕ) (q : Join) → (passes all es (along all es n q) ≡ false) ⊎ Going (suc n) q
  unfolding Going along
  along_or zero q = ⊎_elim (λ (e : passes all es q ≡ true). inr (λ k h. rw ((let z : k ≡ 0 = omega arith in z)) e)) inl (cases_Bool (passes all es q))
  along_or (suc n) q = go (along_or n (onward es q)) (passes all es q) refl
    where
      further : passes all es q ≡ true → Going (suc n) (onward es q) → Going (suc (suc n)) q
      further e g k = elim k as (λ k. k < suc (suc n) → passes all es (iter k q) ≡ true) [ zero ↦ λ _. e | suc k ↦ λ h. rw (iter_front k q) at (g k (omega arith)) ]

      go : (passes all es (along all es n (onward es q)) ≡ false) ⊎ Going (suc n) (onward es q) → (b : Bool) → passes all es q ≡ b → (passes all es (along all es (suc n) q) ≡ false) ⊎ Going (suc (suc n)) q
      go ih true e = ⊎_elim (λ f. inl (rw (e, along) f)) (λ g. inr (further e g)) ih
      go ih false e = inl (rw (e, along) e)

  pub along_stops : {q : Join} → Chain all es q → passes all es (along all es signal_ports q) ≡ false
  along_stops {q} c = ⊎_elim (λ e. e) (λ g. absurd (ends_soon c g)) (along_or signal_ports q)

  -- what stops within n passes stops there with more
  along_more : (n : ℕ) (q : Join) → passes all es (along all es n q) ≡ false → along all es (suc n) q ≡ along all es n q
  unfolding along
  along_more zero q h = rw (h, along)
  along_more (suc n) q h = go (along_more n (onward es q)) (passes all es q) refl
    where
      go : (passes all es (along all es n (onward es q)) ≡ false → along all es (suc n) (onward es q) ≡ along all es n (onward es q)) → (b : Bool) → passes all es q ≡ b → along all es (suc (suc n)) q ≡ along all es (suc n) q
      go ih true e = rw (e, along) (ih (rw (e, along) at h))
      go ih false e = rw (e, along)

  pub along_step : {q : Join} → Chain all es q → passes all es q ≡ true → along all es signal_ports (onward es q) ≡ along all es signal_ports q
  along_step {q} c e = sym (along_suc all es signal_ports q e) ∙ along_more signal_ports q (along_stops c)
