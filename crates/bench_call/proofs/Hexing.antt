-- What the formats of bytes and words write. Assumes nothing.
use Rattle.std.proofs.Common.{◌≡◌, ℕ, suc, ◌-◌, ◌/◌, ◌%◌, ◌^◌, ◌<◌, ◌≤◌, true, false, List, [], ◌∷◌}
use Rattle.std.proofs.Common.{◌++◌, ◌∙◌, arith}
use Rattle.std.proofs.lemmas.Bool.{cases_lt}
use Rattle.std.proofs.lemmas.Fmt.{hex_byte, hex_one_digit, hex_two_digits}
use Rattle.std.specs.Fmt.{digits, digits_onto, digit_glyph, char_count, padded_integral}
use Rattle.std.specs.Fmt.{format_spec}
use Rattle.bench_call.specs.Texts.{byte_text}
use mathlib.Core.Logic.{⊎_elim}

-- `{:02X}`
pub byte_written : (n : ℕ) → n < 256
    → padded_integral (format_spec 32 0 4 2 (2 ^ 64 - 1)) false [] (digits 16 true n) ≡ byte_text n
byte_written n small = hex_byte true n small

-- the last digit of a number, and the first one
first : (k n : ℕ) (acc : List ℕ) → n < 16
    → digits_onto (suc k) 16 true n acc ≡ digit_glyph true n ∷ acc
first k n acc small = grind arith

last : (k n : ℕ) (acc : List ℕ) → 16 ≤ n
    → digits_onto (suc k) 16 true n acc
    ≡ digits_onto k 16 true (n / 16) (digit_glyph true (n % 16) ∷ acc)
last k n acc large = grind arith

three_digits : (n : ℕ) → 256 ≤ n → n < 4096
    → digits 16 true n
    ≡ digit_glyph true (n / 16 / 16) ∷ digit_glyph true (n / 16 % 16) ∷ digit_glyph true
    (n % 16) ∷ []
unfolding digits
three_digits n large small =
    last 63 n _ (omega arith) ∙ last 62 (n / 16) _ (omega arith)
    ∙ first 61 (n / 16 / 16) _ (omega arith)

four_digits : (n : ℕ) → 4096 ≤ n → n < 65536
    → digits 16 true n
    ≡ digit_glyph true (n / 16 / 16 / 16) ∷ digit_glyph true
    (n / 16 / 16 % 16) ∷ digit_glyph true (n / 16 % 16) ∷ digit_glyph true (n % 16) ∷ []
unfolding digits
four_digits n large small =
    last 63 n _ (omega arith) ∙ last 62 (n / 16) _ (omega arith)
    ∙ last 61 (n / 16 / 16) _ (omega arith) ∙ first 60 (n / 16 / 16 / 16) _ (omega arith)

-- `{:04X}`
pub word_written : (n : ℕ) → n < 65536
    → padded_integral (format_spec 32 0 4 4 (2 ^ 64 - 1)) false [] (digits 16 true n)
    ≡ byte_text (n / 256) ++ byte_text (n % 256)
unfolding padded_integral char_count
word_written n small =
    let a : n / 256 / 16 ≡ n / 16 / 16 / 16 = omega arith in
    let b : n / 256 % 16 ≡ n / 16 / 16 % 16 = omega arith in
    let c : n % 256 / 16 ≡ n / 16 % 16 = omega arith in
    let d : n % 256 % 16 ≡ n % 16 = omega arith in
    ⊎_elim
    (λ one. let x : n / 16 ≡ 0 = omega arith in let y : n % 16 ≡ n = omega arith in
    rw (hex_one_digit true n one, a, b, c, d, x, y))
    (λ more. ⊎_elim
    (λ two. let x : n / 16 / 16 ≡ 0 = omega arith in let y : n / 16 % 16 ≡ n / 16 = omega arith in
    rw (hex_two_digits true n more two, a, b, c, d, x, y))
    (λ yet. ⊎_elim
    (λ three. let x : n / 16 / 16 / 16 ≡ 0 = omega arith in
    let y : n / 16 / 16 % 16 ≡ n / 16 / 16 = omega arith in
    rw (three_digits n yet three, a, b, c, d, x, y))
    (λ four. rw (four_digits n four small, a, b, c, d))
    (cases_lt n 4096))
    (cases_lt n 256))
    (cases_lt n 16)
