-- SCAN: the longest match, found in one scan over a text, with the rules that can still match. It is how the code finds
-- it; that it finds the same is a theorem.
use Rattle.std.specs.Prelude.{ℕ, suc, ◌≡◌, Bool, true, false, cond, List, [], ◌∷◌, length}
use Rattle.definitions.specs.Rules.{Rule, rules}
use Rattle.definitions.specs.Lex.{Match, no_match, matched, longest}
use Rattle.patterns.specs.Remainder.{fits_empty, is_nothing, after}

-- the rules that can still match after a byte, each with what is left of its pattern
unfoldable pub go_on : ℕ → List Rule → List Rule
unfolding after
go_on b [] = []
go_on b (r ∷ rs) =
    let p = after b r.pattern in
    let more = go_on b rs in
    cond (is_nothing p) more (record { kind = r.kind; pattern = p; callback = r.callback } ∷ more)

-- the first rule that matches the n bytes read; else what matched before
unfoldable pub better : ℕ → List Rule → Match → Match
unfolding fits_empty
better n [] m = m
better n (r ∷ rs) m =
    let more = better n rs m in
    cond (fits_empty r.pattern) (matched n r.kind r.callback) more

abbrev pub no_rules : List Rule → Bool
no_rules [] = true
no_rules (r ∷ rs) = false

-- rs: the rules that can still match after n bytes. m: the longest match so far. The text that follows.
unfoldable pub scan : List Rule → ℕ → Match → List ℕ → Match
unfolding go_on better
scan rs n m [] = m
scan rs n m (b ∷ s) =
    let l = go_on b rs in
    let more = scan l (suc n) (better (suc n) l m) s in
    cond (no_rules l) m more

abbrev pub Scan : Type 0
Scan = (s : List ℕ) → scan rules 0 no_match s ≡ longest (length s) s
