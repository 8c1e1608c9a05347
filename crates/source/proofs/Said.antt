-- What a caller of the view's functions knows of their results: the contracts, and of what each ensures the clause
-- alone.
use mathlib.Core.Path.{◌≡◌, ap, ◌∙◌}
use Prim.Native.Nat.{ℕ}
use mathlib.Core.List.{List}
use lib.ListN.{drop}
use denote.Ref.{Bor}
use Rattle.definitions.specs.Token.{tokens_of, drop_trivia}
use Rattle.layout.specs.declared.TokenIndex.{TokenIndex}
use Rattle.token_rows.specs.Tokens.{kind_of}
use Rattle.source.specs.Cursor.{after_trivia, after_token}
use Rattle.source.specs.declared.Source.{Source}
use Rattle.source.proofs.Moves.{sees}

abbrev pub Made : Bor (List ℕ) → TokenIndex → Source → Type 0
Made s i r = (r.tokens ≡ s) × (r.cursor ≡ i)

abbrev pub Peeked : Source → Source → Type 0
Peeked r p = (p.tokens ≡ r.tokens) × (p.cursor.0 ≡ after_trivia (tokens_of r.tokens.now) r.cursor.0)

abbrev pub KindSeen : Source → ℕ → Type 0
KindSeen p k = k ≡ kind_of (drop p.cursor.0 (tokens_of p.tokens.now))

abbrev pub Taken : Source → Source → Type 0
Taken r n = (n.tokens ≡ r.tokens) × (n.cursor.0 ≡ after_token (tokens_of r.tokens.now) r.cursor.0)

-- the same of a view that was made of rows and a place
pub seen_here : (s : Bor (List ℕ)) (i : TokenIndex) (r : Source) (k : ℕ) → Made s i r → KindSeen r k → k ≡ kind_of (drop i.0 (tokens_of s.now))
seen_here s i r k e f = f ∙ ap (λ (x : Bor (List ℕ)). kind_of (drop r.cursor.0 (tokens_of x.now))) e.0 ∙ ap (λ (x : TokenIndex). kind_of (drop x.0 (tokens_of s.now))) e.1

pub seen_past : (s : Bor (List ℕ)) (i : TokenIndex) (r p : Source) (k : ℕ) → Made s i r → Peeked r p → KindSeen p k → k ≡ kind_of (drop_trivia (drop i.0 (tokens_of s.now)))
seen_past s i r p k e f g =
    sees (tokens_of s.now) i.0 p.cursor.0 k
    (f.1 ∙ ap (λ (x : Bor (List ℕ)). after_trivia (tokens_of x.now) r.cursor.0) e.0 ∙ ap (λ (x : TokenIndex). after_trivia (tokens_of s.now) x.0) e.1)
    (g ∙ ap (λ (x : Bor (List ℕ)). kind_of (drop p.cursor.0 (tokens_of x.now))) (f.0 ∙ e.0))

pub taken_from : (s : Bor (List ℕ)) (i : TokenIndex) (r n : Source) → Made s i r → Taken r n → n.cursor.0 ≡ after_token (tokens_of s.now) i.0
taken_from s i r n e f = f.1 ∙ ap (λ (x : Bor (List ℕ)). after_token (tokens_of x.now) r.cursor.0) e.0 ∙ ap (λ (x : TokenIndex). after_token (tokens_of s.now) x.0) e.1
