-- A state is the list of rules that can still match after some text. What is computed of the states and the table:
-- every entry, what each state matches, which go on. A byte's entry is compared with the rules where the byte is the
-- first of those that they do not tell apart (Alike.antt), and with the first's entry elsewhere: there are 64 to
-- compute and not 256.
use Prim.Native.Nat.{ℕ, ◌*◌}
use mathlib.Core.Path.{◌≡◌, refl}
use mathlib.Core.Bool.{Bool, true, false, cond, not, ◌&&◌}
use mathlib.Core.List.{List, [], ◌∷◌, map}
use lib.Dec.{eqb, leb, ltb}
use lib.ListN.{get_or, take, drop}
use Rattle.definitions.specs.Rules.{Rule, rules}
use Rattle.patterns.specs.Remainder.{fits_empty, is_empty}
use Rattle.lexing.specs.Scan.{go_on}
use Rattle.lex_table.specs.States.{long_rows, classes, short_rows, kinds}
use Rattle.lex_table.specs.Matches.{callback_of}
use Rattle.lex_table.proofs.Words.{firsts, words}
use Rattle.lex_table.proofs.Every.{every}
use Rattle.lex_table.proofs.Same.{same_rules, number}
use Rattle.lex_table.proofs.Alike.{alike_in}

-- the rules that can still match after a text
unfoldable pub go_through : List ℕ → List Rule → List Rule
unfolding go_on
go_through [] rs = rs
go_through (b ∷ u) rs = go_through u (go_on b rs)

abbrev pub after_word : List ℕ → List Rule
after_word w = go_through w rules

unfoldable pub states : List (List Rule)
unfolding go_through
states = map after_word words

abbrev pub st : ℕ → List Rule
st i = get_or states i []

-- ---------------------------------------------------------------- bytes

unfoldable pub told : ℕ → ℕ → Bool
unfolding alike_in
told b f = alike_in b f rules

pub firsts_alike : every told 0 firsts ≡ true
unfolding every told firsts
firsts_alike = refl

unfoldable pub its_own : ℕ → ℕ → Bool
unfolding firsts
its_own b f = eqb (get_or firsts f 0) f && ltb f 256

pub firsts_first : every its_own 0 firsts ≡ true
unfolding every its_own
firsts_first = refl

unfoldable pub same_class : ℕ → ℕ → Bool
unfolding classes
same_class b f = eqb (get_or classes b 0) (get_or classes f 0)

pub firsts_class : every same_class 0 firsts ≡ true
unfolding every same_class firsts
firsts_class = refl

-- ---------------------------------------------------------------- entries

-- the rules that are left are those of state j; where none is left, j is the dead state, without a look at its rules
unfoldable pub entry_right : List (List Rule) → List Rule → ℕ → Bool
unfolding same_rules
entry_right ss [] j = eqb j 132
entry_right ss (r ∷ rs) j = same_rules (r ∷ rs) (get_or ss j [])

-- the next state at each byte that is a first one
unfoldable pub firsts_right : List (List Rule) → List Rule → (ℕ → ℕ) → Bool
unfolding go_on entry_right firsts every
firsts_right ss s next =
    every
    (λ (b f : ℕ).
    let right = entry_right ss (go_on b s) (next b) in
    cond (eqb b f) right true)
    0 firsts

-- what is left of a row and of the first bytes: at each byte stands what the row has at the first that is alike
unfoldable pub even : List ℕ → List ℕ → List ℕ → Bool
even row js [] = true
even row [] (f ∷ fs) = false
even row (j ∷ js) (f ∷ fs) = eqb j (get_or row f 0) && even row js fs

unfoldable pub long_right : List (List Rule) → List Rule → List ℕ → Bool
unfolding firsts_right firsts even
long_right ss s row = firsts_right ss s (λ (b : ℕ). get_or row b 0) && even row row firsts

unfoldable pub short_right : List (List Rule) → List Rule → List ℕ → Bool
unfolding firsts_right classes
short_right ss s row = firsts_right ss s (λ (b : ℕ). get_or row (get_or classes b 0) 0)

-- the rows of state i, and of state i + 21
unfoldable pub long_row : ℕ → List ℕ
unfolding long_rows
long_row i = take 256 (drop (i * 256) long_rows)

unfoldable pub short_row : ℕ → List ℕ
unfolding short_rows
short_row i = take 31 (drop (i * 31) short_rows)

unfoldable pub long_state : List (List Rule) → ℕ → List Rule → Bool
unfolding long_right long_row
long_state ss i s = long_right ss s (long_row i)

unfoldable pub short_state : List (List Rule) → ℕ → List Rule → Bool
unfolding short_right short_row
short_state ss i s = short_right ss s (short_row i)

pub long_states : every (long_state states) 0 (take 21 states) ≡ true
unfolding every long_state states
long_states = refl

pub short_states : every (short_state states) 0 (take 75 (drop 21 states)) ≡ true
unfolding every short_state states
short_states = refl

-- ---------------------------------------------------------------- matches

abbrev pub accepting : ℕ → Bool
accepting j = cond (ltb j 21) (ltb 0 j) (leb 96 j && ltb j 132)

-- a rule's kind and callback are those of state j
unfoldable pub fit_right : ℕ → Rule → Bool
unfolding kinds callback_of
fit_right j r = accepting j && (eqb r.kind (get_or kinds j 0) && eqb (number r.callback) (number (callback_of j)))

-- of the first rule that matches in it
unfoldable pub accept_right : ℕ → List Rule → Bool
unfolding fits_empty fit_right
accept_right j [] = not (accepting j)
accept_right j (r ∷ rs) =
    let more = accept_right j rs in
    cond (fits_empty r.pattern) (fit_right j r) more

pub accepts : every accept_right 0 states ≡ true
unfolding every accept_right states
accepts = refl

-- ---------------------------------------------------------------- states that do not go on

unfoldable pub only_empty : List Rule → Bool
only_empty [] = true
only_empty (r ∷ rs) = is_empty r.pattern && only_empty rs

unfoldable pub final_right : ℕ → List Rule → Bool
unfolding only_empty
final_right j rs =
    let last = only_empty rs in
    cond (leb 96 j) last true

pub finals : every final_right 0 states ≡ true
unfolding every final_right states
finals = refl
