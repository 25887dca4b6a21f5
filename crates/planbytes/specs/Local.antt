-- A read that asks for some bytes answers the same on these alone as on all that are left.
use Rattle.std.proofs.Common.{◌≡◌, ℕ, zero, suc, ◌+◌, ◌-◌, ◌≤◌, min, List, length, take, drop, Ok, Err, sym, refl, ap, ◌∙◌, subst, arith}
use Rattle.std.proofs.lemmas.List.{drop-drop, length-drop, take_all}
use Rattle.planbytes.specs.Bytes.{Bytes, Reading, Read, and_then, times, made_of, ended_at}
use Rattle.planbytes.specs.Records.{value_of}

-- How many bytes a read asks for, by the bytes left before it.
abbrev pub Width : Type 0
Width = List ℕ → ℕ

-- An answer after which at most n bytes are left.
abbrev pub shortened : {X : Type 0} → ℕ → Reading X → Reading X
shortened n = made_of (λ v. (v.0, (take n v.1.0, v.1.1)))

-- The read f asks for w bytes: any bytes that begin with them are as good as all, and a value leaves what stands after them.
pub record Local {X : Type 0} (w : Width) (f : Read X) : Type 0 where
  pub same : (bs : List ℕ) (o n : ℕ) → w bs ≤ n → f (take n bs, o) ≡ shortened (n - w bs) (f (bs, o))
  pub ends : (bs : List ℕ) (o : ℕ) (v : X) (cs : Bytes) → f (bs, o) ≡ Ok (v, cs) → (cs ≡ (drop (w bs) bs, o + w bs)) × (w bs ≤ length bs)

-- As many bytes, counted in another way.
pub wide_local : {X : Type 0} (a b : Width) (f : Read X) → Local a f → ((bs : List ℕ) → a bs ≡ b bs) → Local b f
wide_local a b f l same = subst (λ w. Local w f) (λ i bs. same bs i) l

-- No byte.
pub pure_local : {X : Type 0} (v : X) → Local (λ bs. 0) (λ bs. Ok (v, bs))
pure_local v = record {
  same = λ bs o n h. grind arith;
  ends = λ bs o u cs e. grind arith;
}

-- A read f, and then one, g, that may go by what was read; c counts the bytes of both.
module _ {X Y : Type 0} (a : Width) (b : X → Width) (c : Width) (f : Read X) (g : X → Read Y) (lf : Local a f) (lg : (v : X) → Local (b v) (g v))
    (sum : (bs : List ℕ) (o : ℕ) (v : X) (cs : Bytes) → f (bs, o) ≡ Ok (v, cs) → c bs ≡ a bs + b v cs.0) where
  then_same : (bs : List ℕ) (o n : ℕ) → c bs ≤ n → (x : Reading X) → f (bs, o) ≡ x
      → and_then (shortened (n - a bs) x) g ≡ shortened (n - c bs) (and_then x g)
  then_same bs o n h (Err e) s = refl
  then_same bs o n h (Ok v) s =
      let t : c bs ≡ a bs + b v.0 v.1.0 = sum bs o v.0 v.1 s in
      let m : n - a bs - b v.0 v.1.0 ≡ n - c bs = omega (arith, t) in
      (lg v.0).same v.1.0 v.1.1 (n - a bs) (omega (arith, t, h)) ∙ ap (λ k. shortened k (g v.0 v.1)) m

  then_ends : (bs : List ℕ) (o : ℕ) (u : Y) (cs : Bytes) → (x : Reading X) → f (bs, o) ≡ x → and_then x g ≡ Ok (u, cs)
      → (cs ≡ (drop (c bs) bs, o + c bs)) × (c bs ≤ length bs)
  then_ends bs o u cs (Err e) s d = absurd (cc)
  then_ends bs o u cs (Ok v) s d =
      let e : (v.1 ≡ (drop (a bs) bs, o + a bs)) × (a bs ≤ length bs) = lf.ends bs o v.0 v.1 s in
      let t : c bs ≡ a bs + b v.0 v.1.0 = sum bs o v.0 v.1 s in
      let i : (cs ≡ (drop (b v.0 v.1.0) v.1.0, v.1.1 + b v.0 v.1.0)) × (b v.0 v.1.0 ≤ length v.1.0) = (lg v.0).ends v.1.0 v.1.1 u cs d in
      grind (arith, drop-drop, length-drop)

  pub then_local : ((bs : List ℕ) → a bs ≤ c bs) → Local c (λ bs. and_then (f bs) g)
  then_local low = record {
    same = λ bs o n h.
        let m : a bs ≤ c bs = low bs in
        ap (λ x. and_then x g) (lf.same bs o n (omega arith)) ∙ then_same bs o n h (f (bs, o)) refl;
    ends = λ bs o u cs d. then_ends bs o u cs (f (bs, o)) refl d;
  }

-- A read, and then one that asks for as many bytes whatever was read.
pub next_local : {X Y : Type 0} (a b : Width) (f : Read X) (g : X → Read Y) → Local a f → ((v : X) → Local b (g v))
    → Local (λ bs. a bs + b (drop (a bs) bs)) (λ bs. and_then (f bs) g)
next_local a b f g lf lg = then_local a (λ v. b) (λ bs. a bs + b (drop (a bs) bs)) f g lf lg
    (λ bs o v cs e. ap (λ c. a bs + b c.0) (sym (lf.ends bs o v cs e).0))
    (λ bs. omega arith)

-- What is made of a value that was read.
pub made_local : {X Y : Type 0} (w : Width) (f : Read X) (make : X → Y) → Local w f → Local w (λ bs. and_then (f bs) (λ v cs. Ok (make v, cs)))
made_local w f make l = then_local w (λ v bs. 0) w f (λ v cs. Ok (make v, cs)) l (λ v. pure_local (make v))
    (λ bs o v cs e. omega arith)
    (λ bs. omega arith)

-- A step that asks for one byte, taken n times.
pub times_local : {S : Type 0} (f : S → Read S) → ((s : S) → Local (λ bs. 1) (f s)) → (n : ℕ) (s : S) → Local (λ bs. n) (times n f s)
times_local f l zero s = pure_local s
times_local f l (suc n) s = then_local (λ bs. 1) (λ t bs. n) (λ bs. suc n) (f s) (times n f) (l s) (times_local f l n)
    (λ bs o t cs e. omega arith)
    (λ bs. omega arith)

-- As many bytes as a read asks for, or all there are, say what the bytes say there.
part_ended : {X : Type 0} (w : Width) (f : Read X) → Local w f → (bs : List ℕ) (o n k : ℕ) → n ≡ min (w bs) (length bs)
    → (x : Reading X) → f (bs, o) ≡ x → ended_at (value_of (shortened k x)) (drop n bs, o + n) ≡ x
part_ended w f l bs o n k a (Err e) s = refl
part_ended w f l bs o n k a (Ok v) s =
    let e : (v.1 ≡ (drop (w bs) bs, o + w bs)) × (w bs ≤ length bs) = l.ends bs o v.0 v.1 s in
    let m : n ≡ w bs = omega (arith, a, e.1) in
    ap (λ (c : Bytes). Ok (v.0, c)) (ap (λ i. (drop i bs, o + i)) m ∙ sym e.0)

pub part_says : {X : Type 0} (w : Width) (f : Read X) → Local w f → (bs : List ℕ) (o n : ℕ) → n ≡ min (w bs) (length bs)
    → ended_at (value_of (f (take n bs, o))) (drop n bs, o + n) ≡ f (bs, o)
part_says w f l bs o n a =
    let t : take n bs ≡ take (w bs) bs = grind (arith, take_all) in
    let s : f (take n bs, o) ≡ shortened (w bs - w bs) (f (bs, o)) = ap (λ cs. f (cs, o)) t ∙ l.same bs o (w bs) (omega arith) in
    ap (λ x. ended_at (value_of x) (drop n bs, o + n)) s ∙ part_ended w f l bs o n (w bs - w bs) a (f (bs, o)) refl
