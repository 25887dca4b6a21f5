-- The bytes of a text are those of its pairs of signs, as they come from cutting it at its gaps and each piece by two.
use Rattle.std.proofs.Common.{◌≡◌, ℕ, ◌+◌, ◌<◌, Bool, true, false, cond, List, [], ◌∷◌, ◌++◌, length, drop, map, min, refl, sym, ap, subst, ◌∙◌, arith, Option, Some, None, Ok, Err, Result, Bor}
use Rattle.std.proofs.lemmas.Iterator.{YieldsList}
use Rattle.std.proofs.lemmas.Iterator.Consumers.{YieldsList-so_far, YieldsList-turn, YieldsList-end}
use Rattle.std.proofs.lemmas.Iterator.Splits.{YieldsList-from_shown_while}
use Rattle.std.proofs.lemmas.List.{take-append-drop, drop_more, map-append}
use Rattle.std.specs.Iterator.{Yields}
use Rattle.std.proofs.lemmas.List.Splits.{length-slice_split}
use Rattle.std.specs.List.{slice_split, onto_first, flat_map}
use Rattle.std.specs.Slice.Iter.{chunks_steps, chunks_rest, chunks_size}
use Rattle.spoken.specs.Digits.{is_gap, byte_in, with_byte, bytes_in}
use Rattle.spoken.specs.declared.hex.HexFault.{HexFault}

-- the pairs of a piece; the last may be one sign
abbrev pub pairs_of : List ℕ → List (List ℕ)
pairs_of [] = []
pairs_of (lone ∷ []) = (lone ∷ []) ∷ []
pairs_of (high ∷ low ∷ more) = (high ∷ low ∷ []) ∷ pairs_of more

abbrev pub pairs_in : List ℕ → List (List ℕ)
pairs_in text = flat_map pairs_of (slice_split is_gap text)

abbrev pub bytes_of_pairs : List (List ℕ) → Result (List ℕ) HexFault
bytes_of_pairs [] = Ok []
bytes_of_pairs (pair ∷ more) = with_byte (byte_in pair) (bytes_of_pairs more)

-- a pair before the first piece
onto : (high low : ℕ) (parts : List (List ℕ)) → 0 < length parts → flat_map pairs_of (onto_first high (onto_first low parts)) ≡ (high ∷ low ∷ []) ∷ flat_map pairs_of parts
onto high low [] h = absurd (omega arith)
onto high low (part ∷ parts) h = refl

-- whether one sign, or each of two, is a gap
one_sign : (gap : Bool) (lone : ℕ) → bytes_of_pairs (flat_map pairs_of (cond gap ([] ∷ [] ∷ []) (onto_first lone ([] ∷ [])))) ≡ cond gap (Ok []) (with_byte (byte_in (lone ∷ [])) (Ok []))
one_sign true lone = refl
one_sign false lone = refl

two_signs : (first second : Bool) (high low : ℕ) (more : List ℕ) → 0 < length (slice_split is_gap more)
    → bytes_of_pairs (pairs_in (low ∷ more)) ≡ bytes_in (low ∷ more) → bytes_of_pairs (pairs_in more) ≡ bytes_in more
    → bytes_of_pairs (flat_map pairs_of (cond first ([] ∷ slice_split is_gap (low ∷ more)) (onto_first high (cond second ([] ∷ slice_split is_gap more) (onto_first low (slice_split is_gap more))))))
    ≡ cond first (bytes_in (low ∷ more)) (cond second (with_byte (byte_in (high ∷ [])) (bytes_in more)) (with_byte (byte_in (high ∷ low ∷ [])) (bytes_in more)))
two_signs true second high low more some next later = next
two_signs false true high low more some next later = ap (with_byte (byte_in (high ∷ []))) later
two_signs false false high low more some next later =
    ap bytes_of_pairs (onto high low (slice_split is_gap more) some) ∙ ap (with_byte (byte_in (high ∷ low ∷ []))) later

bytes_by_pairs : (text : List ℕ) → bytes_of_pairs (pairs_in text) ≡ bytes_in text
bytes_by_pairs [] = refl
bytes_by_pairs (lone ∷ []) = one_sign (is_gap lone) lone
bytes_by_pairs (high ∷ low ∷ more) =
    two_signs (is_gap high) (is_gap low) high low more (omega (arith, length-slice_split is_gap more)) (bytes_by_pairs (low ∷ more)) (bytes_by_pairs more)

-- what the pairs of two rows give, one after the other
abbrev joined : Result (List ℕ) HexFault → Result (List ℕ) HexFault → Result (List ℕ) HexFault
joined (Err fault) later = Err fault
joined (Ok bytes) (Err fault) = Err fault
joined (Ok bytes) (Ok later) = Ok (bytes ++ later)

join_byte : (byte : Result ℕ HexFault) (bytes later : Result (List ℕ) HexFault) → with_byte byte (joined bytes later) ≡ joined (with_byte byte bytes) later
join_byte (Err fault) bytes later = refl
join_byte (Ok byte) (Err fault) later = refl
join_byte (Ok byte) (Ok bytes) (Err fault) = refl
join_byte (Ok byte) (Ok bytes) (Ok later) = refl

nothing_before : (later : Result (List ℕ) HexFault) → later ≡ joined (Ok []) later
nothing_before (Err fault) = refl
nothing_before (Ok later) = refl

join_pairs : (pairs later : List (List ℕ)) → bytes_of_pairs (pairs ++ later) ≡ joined (bytes_of_pairs pairs) (bytes_of_pairs later)
join_pairs [] later = nothing_before (bytes_of_pairs later)
join_pairs (pair ∷ pairs) later = ap (with_byte (byte_in pair)) (join_pairs pairs later) ∙ join_byte (byte_in pair) (bytes_of_pairs pairs) (bytes_of_pairs later)

-- one more pair
one_more : (pairs : List (List ℕ)) (pair bytes : List ℕ) (byte : ℕ) → bytes_of_pairs pairs ≡ Ok bytes → byte_in pair ≡ Ok byte
    → bytes_of_pairs (pairs ++ pair ∷ []) ≡ Ok (bytes ++ byte ∷ [])
one_more pairs pair bytes byte h e =
    join_pairs pairs (pair ∷ []) ∙ ap (λ r. joined r (with_byte (byte_in pair) (Ok []))) h ∙ ap (λ r. joined (Ok bytes) (with_byte r (Ok []))) e

-- the first pair that is no byte
first_fault : (pairs later : List (List ℕ)) (pair bytes : List ℕ) (fault : HexFault) → bytes_of_pairs pairs ≡ Ok bytes → byte_in pair ≡ Err fault
    → bytes_of_pairs (pairs ++ pair ∷ later) ≡ Err fault
first_fault pairs later pair bytes fault h e =
    join_pairs pairs (pair ∷ later) ∙ ap (λ r. joined r (with_byte (byte_in pair) (bytes_of_pairs later))) h ∙ ap (λ r. joined (Ok bytes) (with_byte r (bytes_of_pairs later))) e

-- what chunks of two give
first_pair : (signs pair rest : List ℕ) → signs ≡ pair ++ rest → length pair ≡ min 2 (length signs) → 0 < length signs → pairs_of signs ≡ pair ∷ pairs_of rest
first_pair signs [] rest e wide some = absurd (omega arith)
first_pair signs (lone ∷ []) [] e wide some = ap pairs_of e
first_pair signs (lone ∷ []) (sign ∷ rest) e wide some = absurd (omega (arith, ap length e))
first_pair signs (high ∷ low ∷ []) rest e wide some = ap pairs_of e
first_pair signs (high ∷ low ∷ sign ∷ pair) rest e wide some = absurd (omega arith)

no_pair : (signs : List ℕ) → length signs ≡ 0 → length (pairs_of signs) ≡ 0
no_pair [] h = refl
no_pair (sign ∷ signs) h = absurd (omega arith)

pub YieldsListFrom_pairs : {s : _} (signs : List ℕ) → chunks_rest s ≡ signs → chunks_size s ≡ 2 → YieldsList chunks_steps (λ x. x.now) s (pairs_of signs)
YieldsListFrom_pairs {s} signs rest size = subst (λ xs. YieldsList chunks_steps (λ x. x.now) s (pairs_of xs)) rest
    (YieldsList-from_shown_while chunks_steps (λ x. x.now) (λ t. pairs_of (chunks_rest t)) (λ t. chunks_size t ≡ 2)
    (λ t u two k. no_pair (chunks_rest t) k.1.0)
    (λ t x u two k. (k.0 ∙ two, first_pair (chunks_rest t) x.now (chunks_rest u) k.1.0 (k.1.1 ∙ ap (λ (n : ℕ). min n (length (chunks_rest t))) two) k.1.2))
    s size)

pub read_more : (seen : List (Bor (List ℕ))) (pair : Bor (List ℕ)) (bytes more : List ℕ) (byte : ℕ) → bytes_of_pairs (map (λ x. x.now) seen) ≡ Ok bytes → byte_in pair.now ≡ Ok byte
    → more ≡ bytes ++ byte ∷ [] → bytes_of_pairs (map (λ x. x.now) (seen ++ pair ∷ [])) ≡ Ok more
read_more seen pair bytes more byte h e pushed =
    ap bytes_of_pairs (map-append (λ x. x.now) seen (pair ∷ [])) ∙ one_more (map (λ x. x.now) seen) pair.now bytes byte h e ∙ ap (λ bs. Ok bs) (sym pushed)

-- a run over the pairs of a text, which has yielded some: it comes to a pair that is no byte, or to its end
module _ {S : Type 0} {steps : S → Option (Bor (List ℕ)) → S → Type 0} {s : S} (text : List ℕ) (run : YieldsList steps (λ x. x.now) s (pairs_in text))
    (seen : List (Bor (List ℕ))) (t : S) (led : Yields steps s seen t) (bytes : List ℕ) (read : bytes_of_pairs (map (λ x. x.now) seen) ≡ Ok bytes) (next : Option (Bor (List ℕ))) (u : S) where
  pub read_to_end : next ≡ None → steps t next u → bytes_in text ≡ Ok bytes
  read_to_end none step = sym (bytes_by_pairs text) ∙ ap bytes_of_pairs (sym (YieldsList-end run seen t led next u none step).0) ∙ read

  pub read_to_fault : (pair : Bor (List ℕ)) (fault : HexFault) → next ≡ Some pair → steps t next u → byte_in pair.now ≡ Err fault → bytes_in text ≡ Err fault
  read_to_fault pair fault some step e =
      let n : ℕ = length seen in
      let turn = YieldsList-turn run seen t led next u pair some step in
      let all : pairs_in text ≡ map (λ x. x.now) seen ++ pair.now ∷ drop (n + 1) (pairs_in text) =
      sym (take-append-drop n (pairs_in text)) ∙ ap (λ front. front ++ drop n (pairs_in text)) (sym (YieldsList-so_far run seen t led))
      ∙ ap (λ back. map (λ x. x.now) seen ++ back) (drop_more (pairs_in text) n pair.now turn.0 ∙ ap (λ x. x ∷ drop (n + 1) (pairs_in text)) (sym turn.1)) in
      sym (bytes_by_pairs text) ∙ ap bytes_of_pairs all ∙ first_fault (map (λ x. x.now) seen) (drop (n + 1) (pairs_in text)) pair.now bytes fault read e
