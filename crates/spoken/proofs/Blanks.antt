-- What the library's trims and its cut at a blank leave of a text is what the rules for words say.
use Rattle.std.proofs.Common.{◌≡◌, ℕ, ◌+◌, ◌-◌, ◌<◌, ◌≤◌, Bool, true, false, cond, List, [], ◌∷◌, ◌++◌, length, take, drop, get_or, reverse, refl, sym, ap, ◌∙◌, length-take, arith, Option, Some, None, IfSome, Bor}
use Rattle.std.proofs.Math.Logic.{⊎_elim}
use Rattle.std.proofs.Math.Seq.{take-length}
use Rattle.std.proofs.lemmas.Bool.{cases_lt, cases_Bool}
use Rattle.std.proofs.lemmas.Bool.Decides.{nat_tests}
use Rattle.std.proofs.lemmas.List.{reverse-reverse, reverse-append, take-append-drop, drop_all, get_or-take}
use Rattle.std.proofs.lemmas.List.Sums.{position_or_len_is}
use Rattle.std.proofs.lemmas.Str.{encode_ascii, len_utf8_ascii, NoCharPasses-byte}
use Rattle.std.specs.Char.{char_set_contains, IsScalar}
use Rattle.std.specs.Option.{MatchOption, unwrap_or}
use Rattle.std.specs.Str.{NoCharPasses}
use Rattle.std.specs.Str.Pattern.{FindsBy, FindsPrefixBy, FindsSuffixBy, HasPassingCharAt, CutsPrefixes, CutsSuffixes, IsTrimStartMatches, IsTrimEndMatches, SplitsAroundMatch}
use Rattle.std.specs.List.{position_or_len, before_first, after_first}
use Rattle.spoken.specs.Words.{is_blank, from_first_word}

is_blank_set : (sign : ℕ) → char_set_contains (32 ∷ 9 ∷ []) sign ≡ is_blank sign
is_blank_set sign = grind (arith, nat_tests)

blank_ascii : (sign : ℕ) → is_blank sign ≡ true → sign < 128
blank_ascii sign h = grind (arith, nat_tests)

blank_scalar : (sign : ℕ) → is_blank sign ≡ true → IsScalar sign
blank_scalar sign h = grind (arith, nat_tests)

other_than_ascii : (sign : ℕ) → 128 ≤ sign → is_blank sign ≡ false
other_than_ascii sign h = grind (arith, nat_tests)

-- a blank at the front is left away, and what begins with none stays
blank_first : (sign : ℕ) (text : List ℕ) → is_blank sign ≡ true → from_first_word (sign ∷ text) ≡ from_first_word text
blank_first sign text h = ap (λ b. cond b (from_first_word text) (sign ∷ text)) h

none_first : (text : List ℕ) → ((sign : ℕ) (more : List ℕ) → text ≡ sign ∷ more → is_blank sign ≡ false) → from_first_word text ≡ text
none_first [] h = refl
none_first (sign ∷ text) h = ap (λ b. cond b (from_first_word text) (sign ∷ text)) (h sign text refl)

-- one blank at the front of a text
front_blank : (text : List ℕ) (n : ℕ) → HasPassingCharAt is_blank text 0 n → text ≡ get_or text 0 0 ∷ drop n text
front_blank text n h =
    let low : h.0 < 128 = blank_ascii h.0 h.1 in
    let front : text ≡ h.0 ∷ drop n text = h.2.split ∙ ap (λ front. front ++ drop n text) (encode_ascii h.0 low) in
    front ∙ ap (λ sign. sign ∷ drop n text) (sym (h.2.byte low))

front_passes : (text : List ℕ) (n : ℕ) → HasPassingCharAt is_blank text 0 n → is_blank (get_or text 0 0) ≡ true
front_passes text n h = ap is_blank (h.2.byte (blank_ascii h.0 h.1)) ∙ h.1

one_wide : (text : List ℕ) (i n : ℕ) → HasPassingCharAt is_blank text i n → n ≡ i + 1
one_wide text i n h = h.2.ends ∙ ap (λ (w : ℕ). i + w) (len_utf8_ascii h.0 (blank_ascii h.0 h.1))

module _ (Finds : List ℕ → Option ℕ → Type 0) (gives : (s : List ℕ) (o : Option ℕ) → Finds s o → FindsPrefixBy is_blank s o) where
  cut_front : (text rest : List ℕ) (ns : List ℕ) → CutsPrefixes Finds text ns rest → from_first_word text ≡ from_first_word rest
  cut_front text rest [] h = ap from_first_word (sym h)
  cut_front text rest (n ∷ ns) h =
      let found = gives h.0 (Some n) h.2 in
      cut_front text h.0 ns h.1 ∙ ap from_first_word (front_blank h.0 n found)
      ∙ blank_first (get_or h.0 0 0) (drop n h.0) (front_passes h.0 n found) ∙ ap from_first_word (sym h.3)

  no_front : (text : List ℕ) → FindsPrefixBy is_blank text None → from_first_word text ≡ text
  no_front text h = none_first text (λ sign more e. ⊎_elim
      (λ blank. h sign more (blank_scalar sign blank) (e ∙ ap (λ front. front ++ more) (sym (encode_ascii sign (blank_ascii sign blank)))))
      (λ other. other)
      (cases_Bool (is_blank sign)))

  no_more_front : (text : List ℕ) (o : Option ℕ) → FindsPrefixBy is_blank text o → IfSome o (λ n. n ≡ 0) → from_first_word text ≡ text
  no_more_front text None h zero = no_front text h
  no_more_front text (Some n) h zero = absurd (omega (arith, one_wide text 0 n h, zero))

  start_trimmed : (text rest : List ℕ) → IsTrimStartMatches Finds text rest → rest ≡ from_first_word text
  start_trimmed text rest h =
      let last = h.1 in
      sym (cut_front text rest h.0.0 h.0.1 ∙ no_more_front rest last.0 (gives rest last.0 last.1) last.2)

-- one blank at the end of a text
end_blank : (text : List ℕ) (i : ℕ) → HasPassingCharAt is_blank text i (length text) → reverse text ≡ get_or text i 0 ∷ reverse (take i text)
end_blank text i h =
    let low : h.0 < 128 = blank_ascii h.0 h.1 in
    let back : drop i text ≡ h.0 ∷ [] = h.2.split ∙ ap (λ front. front ++ drop (length text) text) (encode_ascii h.0 low) ∙ ap (λ more. h.0 ∷ more) (drop_all (length text) text (omega arith)) in
    let parts : text ≡ take i text ++ (h.0 ∷ []) = sym (take-append-drop i text) ∙ ap (λ more. take i text ++ more) back in
    ap reverse parts ∙ reverse-append (take i text) (h.0 ∷ []) ∙ ap (λ sign. sign ∷ reverse (take i text)) (sym (h.2.byte low))

end_passes : (text : List ℕ) (i n : ℕ) → HasPassingCharAt is_blank text i n → is_blank (get_or text i 0) ≡ true
end_passes text i n h = ap is_blank (h.2.byte (blank_ascii h.0 h.1)) ∙ h.1

module _ (Finds : List ℕ → Option ℕ → Type 0) (gives : (s : List ℕ) (o : Option ℕ) → Finds s o → FindsSuffixBy is_blank s o) where
  cut_end : (text rest : List ℕ) (ns : List ℕ) → CutsSuffixes Finds text ns rest → from_first_word (reverse text) ≡ from_first_word (reverse rest)
  cut_end text rest [] h = ap (λ s. from_first_word (reverse s)) (sym h)
  cut_end text rest (n ∷ ns) h =
      let found = gives h.0 (Some n) h.2 in
      let i : ℕ = length h.0 - n in
      cut_end text h.0 ns h.1 ∙ ap from_first_word (end_blank h.0 i found)
      ∙ blank_first (get_or h.0 i 0) (reverse (take i h.0)) (end_passes h.0 i (length h.0) found) ∙ ap (λ s. from_first_word (reverse s)) (sym h.3)

  no_end : (text : List ℕ) → FindsSuffixBy is_blank text None → from_first_word (reverse text) ≡ reverse text
  no_end text h = none_first (reverse text) (λ sign more e. ⊎_elim
      (λ blank. h sign (reverse more) (blank_scalar sign blank)
      (sym (reverse-reverse text) ∙ ap reverse e ∙ reverse-append (sign ∷ []) more ∙ ap (λ back. reverse more ++ back) (sym (encode_ascii sign (blank_ascii sign blank)))))
      (λ other. other)
      (cases_Bool (is_blank sign)))

  no_more_end : (text : List ℕ) (o : Option ℕ) → FindsSuffixBy is_blank text o → IfSome o (λ n. n ≡ 0) → from_first_word (reverse text) ≡ reverse text
  no_more_end text None h zero = no_end text h
  no_more_end text (Some n) h zero = absurd (omega (arith, one_wide text (length text - n) (length text) h, zero))

  end_trimmed : (text rest : List ℕ) → IsTrimEndMatches Finds text rest → rest ≡ reverse (from_first_word (reverse text))
  end_trimmed text rest h =
      let last = h.1 in
      sym (ap reverse (cut_end text rest h.0.0 h.0.1 ∙ no_more_end rest last.0 (gives rest last.0 last.1) last.2) ∙ reverse-reverse rest)

-- no byte of a text without blanks is one
no_blank_at : (text : List ℕ) → NoCharPasses is_blank text → (k : ℕ) → k < length text → is_blank (get_or text k 0) ≡ false
no_blank_at text h k within = ⊎_elim
    (λ low. NoCharPasses-byte is_blank text k h within low)
    (λ high. other_than_ascii (get_or text k 0) high)
    (cases_lt (get_or text k 0) 128)

first_blank : (text : List ℕ) (i j : ℕ) → FindsBy is_blank text (Some (i, j)) → i ≤ length text → position_or_len is_blank text ≡ i
first_blank text i j h fits = position_or_len_is is_blank text i 0 fits
    (λ k before. sym (ap is_blank (get_or-take i text k 0 before)) ∙ no_blank_at (take i text) h.0 k (omega (arith, length-take i text)))
    (λ within. end_passes text i j h.1)

no_blank : (text : List ℕ) → FindsBy is_blank text None → position_or_len is_blank text ≡ length text
no_blank text h = position_or_len_is is_blank text (length text) 0 (omega arith) (no_blank_at text h) (λ within. absurd (omega arith))

-- The library says what it finds of every test that passes the signs of a set: here it is the set of blanks.
module _ {A : Type 0} (Gives : (ℕ → Bool) → List ℕ → A → Type 0) where
  abbrev pub AtBlanks : List ℕ → A → Type 0
  AtBlanks text found = (passes : ℕ → Bool) → ((sign : ℕ) → char_set_contains (32 ∷ 9 ∷ []) sign ≡ passes sign) → Gives passes text found

pub blanks_before : (text rest : List ℕ) → IsTrimStartMatches (AtBlanks FindsPrefixBy) text rest → rest ≡ from_first_word text
blanks_before = start_trimmed (AtBlanks FindsPrefixBy) (λ s o found. found is_blank is_blank_set)

pub blanks_after : (text rest : List ℕ) → IsTrimEndMatches (AtBlanks FindsSuffixBy) text rest → rest ≡ reverse (from_first_word (reverse text))
blanks_after = end_trimmed (AtBlanks FindsSuffixBy) (λ s o found. found is_blank is_blank_set)

cut_at_blank : (text word rest : List ℕ) → SplitsAroundMatch (AtBlanks FindsBy) text word rest → (word ≡ before_first is_blank text) × (rest ≡ after_first is_blank text)
cut_at_blank text word rest h =
    let i : ℕ = h.0 in
    let found = h.2 is_blank is_blank_set in
    let here : position_or_len is_blank text ≡ i = first_blank text i h.1 found (omega (arith, h.5, h.7)) in
    let next : h.1 ≡ i + 1 = one_wide text i h.1 found.1 in
    (h.3 ∙ ap (λ n. take n text) (sym here), h.4 ∙ ap (λ n. drop n text) (next ∙ ap (λ (n : ℕ). n + 1) (sym here)))

no_cut : (text : List ℕ) → AtBlanks FindsBy text None → (text ≡ before_first is_blank text) × (after_first is_blank text ≡ [])
no_cut text h =
    let last : position_or_len is_blank text ≡ length text = no_blank text (h is_blank is_blank_set) in
    (sym (ap (λ n. take n text) last ∙ take-length text), ap (λ (n : ℕ). drop (n + 1) text) last ∙ drop_all (length text + 1) text (omega arith))

-- a text that is cut at its first blank, or else is all of the word
pub first_cut : (text : List ℕ) (cut : Option (Bor (List ℕ) × Bor (List ℕ))) (parts otherwise : Bor (List ℕ) × Bor (List ℕ)) → parts ≡ unwrap_or cut otherwise
    → otherwise.0.now ≡ text → otherwise.1.now ≡ [] → MatchOption cut (AtBlanks FindsBy text None) (λ x. SplitsAroundMatch (AtBlanks FindsBy) text x.0.now x.1.now)
    → (parts.0.now ≡ before_first is_blank text) × (parts.1.now ≡ after_first is_blank text)
first_cut text None parts otherwise e whole nothing found =
    let uncut = no_cut text found in
    (ap (λ x. x.0.now) e ∙ whole ∙ uncut.0, ap (λ x. x.1.now) e ∙ nothing ∙ sym uncut.1)
first_cut text (Some found) parts otherwise e whole nothing at =
    let cut = cut_at_blank text found.0.now found.1.now at in
    (ap (λ x. x.0.now) e ∙ cut.0, ap (λ x. x.1.now) e ∙ cut.1)
