-- What the library's `parse` reads of a word is the number that the rule for numbers says.
use Rattle.std.proofs.Common.{◌≡◌, ℕ, ◌<◌, Bool, true, cond, ◌≢◌, List, [], ◌∷◌, length, get_or, refl, sym, ap, ◌∙◌, Some, None, Result, Ok, Err, lt-ltb, ltb}
use Rattle.std.proofs.Math.Logic.{⊎_elim}
use Rattle.std.proofs.lemmas.Bool.{cases_Bool, and_parts}
use Rattle.std.proofs.lemmas.Bool.Decides.{Decides-ltb}
use Rattle.std.proofs.lemmas.Str.Parse.{IsNumeralModel, numerals_by_value, tells_all_ascii_digits, parse_plain}
use Rattle.std.specs.Result.{OkIff, result_ok}
use Rattle.std.specs.Str.{all_ascii_digits}
use Rattle.std.specs.Str.Parse.{ParsesUnsigned, digits_value}
use Rattle.spoken.specs.Words.{is_number, number_in}

own : IsNumeralModel (λ ds. all_ascii_digits ds ≡ true) (digits_value 10)
own = numerals_by_value (λ ds. all_ascii_digits ds ≡ true) tells_all_ascii_digits

pub plus_no_number : (word : List ℕ) → get_or word 0 0 ≡ 43 → number_in word ≡ None
unfolding number_in
plus_no_number [] h = refl
plus_no_number (sign ∷ more) h = rw h refl

spelled : (word : List ℕ) (r : Bool) → r ≡ is_number word → (all_ascii_digits word ≡ true) × (0 < length word) × (digits_value 10 word < 256) → r ≡ true
spelled word r e h = e ∙ rw (h.0, lt-ltb 0 (length word) h.1, lt-ltb (digits_value 10 word) 256 h.2) refl

number_parts : (word : List ℕ) → is_number word ≡ true → (all_ascii_digits word ≡ true) × (0 < length word) × (digits_value 10 word < 256)
number_parts word h =
    let parts = and_parts (all_ascii_digits word) _ h in
    let bounds = and_parts (ltb 0 (length word)) _ parts.1 in
    (parts.0, (Decides-ltb 0 (length word)).0 bounds.0, (Decides-ltb (digits_value 10 word) 256).0 bounds.1)

read : {E : Type 0} (word : List ℕ) (r : Result ℕ E) → OkIff r ((all_ascii_digits word ≡ true) × (0 < length word) × (digits_value 10 word < 256)) (digits_value 10 word)
    → result_ok r ≡ number_in word
unfolding number_in
read word (Ok n) h = ap Some h.1 ∙ sym (ap (λ b. cond b (Some (digits_value 10 word)) None) (spelled word (is_number word) refl h.0))
read word (Err e) h = ⊎_elim
    (λ number. absurd (h (number_parts word number)))
    (λ none. sym (ap (λ b. cond b (Some (digits_value 10 word)) None) none))
    (cases_Bool (is_number word))

pub parsed : {E : Type 0} (word : List ℕ) (r : Result ℕ E) → get_or word 0 0 ≢ 43 → ParsesUnsigned 8 10 word r → result_ok r ≡ number_in word
parsed word r plain h = read word r (parse_plain own 8 word r h plain)
