-- Each token and each raw token of a name that a run makes is there among the file's tokens, and is not trivia: the run
-- reads them off the file (Between), and its names are of the kinds of a name (Names).
use Rattle.std.proofs.Common.{ℕ, zero, suc, ◌≡◌, refl, sym, ◌∙◌, subst, Bool, true, false, ◌||◌, List, [], ◌∷◌, ◌++◌, eqb, length, drop, eqb-true}
use mathlib.Core.Bool.{false≢true}
use Rattle.definitions.specs.TokenKind as K
use Rattle.definitions.specs.Check.{NAME_SET}
use Rattle.definitions.specs.Token.{Token, is_error, seen, trivia, is_trivia, drop_trivia, one_of, past}
use Rattle.definitions.specs.Grammar.{Entry}
use Rattle.definitions.specs.Skeleton.{Skeleton, done, token, name, node, ignored, report, over}
use Rattle.definitions.specs.Place.{after}
use Rattle.definitions.specs.Call.{run_entry}
use Rattle.laws.specs.Lossless.{OfName}
use Rattle.laws.proofs.Trivia.{Solid, dropped_solid}
use Rattle.laws.proofs.Between.{Reads, entry_reads}
use Rattle.laws.proofs.Names.{IsName, Named, entry_names}
use Rattle.laws.proofs.Leaves.{or_cases}
use Rattle.laws.proofs.NamesFound.{after_same}

-- ---------------------------------------------------------------- what is taken

-- the first n are there, and none is trivia
unfoldable pub Firsts : ℕ → List Token → Type 0
Firsts zero ts = Unit {0}
Firsts (suc n) [] = ⊥
Firsts (suc n) (t ∷ ts) = (trivia t ≡ false) × Firsts n ts

-- each token and each raw token of a name that a skeleton makes is there among these tokens
unfoldable pub Taken : Skeleton → List Token → Type 0
Taken done ts = Unit {0}
Taken (token t m o) ts = Firsts 1 (drop_trivia ts) × Taken o (past (drop_trivia ts))
Taken (name raw m o) ts = Firsts (length raw) (drop_trivia ts) × Taken o (drop (length raw) (drop_trivia ts))
Taken (node k m m' a i o) ts =
    let w = drop_trivia ts in
    Taken a w × (Taken i (after a w) × Taken o (after i (after a w)))
Taken (ignored m m' a i o) ts = Taken a ts × (Taken i (after a ts) × Taken o (after i (after a ts)))
Taken (report r o) ts = Taken o ts
Taken (over m o) ts = Taken o ts

-- trivia that stand first change nothing
pub taken_same : (o : Skeleton) (ts us : List Token) → drop_trivia ts ≡ drop_trivia us → Taken o ts → Taken o us
unfolding Taken
taken_same done ts us e h = tt
taken_same (token t m o) ts us e h = subst (λ (l : List Token). Firsts 1 l × Taken o (past l)) e h
taken_same (name raw m o) ts us e h = subst (λ (l : List Token). Firsts (length raw) l × Taken o (drop (length raw) l)) e h
taken_same (node k m m' a i o) ts us e h =
    subst (λ (w : List Token). Taken a w × (Taken i (after a w) × Taken o (after i (after a w)))) e h
taken_same (ignored m m' a i o) ts us e h =
    let f : drop_trivia (after a ts) ≡ drop_trivia (after a us) = after_same a ts us e in
    let g : drop_trivia (after i (after a ts)) ≡ drop_trivia (after i (after a us)) = after_same i _ _ f in
    (taken_same a ts us e h.0, (taken_same i _ _ f h.1.0, taken_same o _ _ g h.1.1))
taken_same (report r o) ts us e h = taken_same o ts us e h
taken_same (over m o) ts us e h = taken_same o ts us e h

-- ---------------------------------------------------------------- every run

-- a token of a name is not trivia
name_solid : (t : Token) → one_of NAME_SET (seen t) ≡ true → trivia t ≡ false
unfolding trivia seen is_error one_of
name_solid t h = go (is_trivia t.kind) refl
  where
    -- this kind is not one of a name
    never : (k : ℕ) → one_of NAME_SET (seen (record { kind = k; len = t.len })) ≡ false → eqb t.kind k ≡ true → is_trivia t.kind ≡ false
    never k f e = absurd (false≢true (sym f ∙ subst (λ (x : ℕ). one_of NAME_SET (seen (record { kind = x; len = t.len })) ≡ true) (eqb-true t.kind k e) h))

    go : (b : Bool) → is_trivia t.kind ≡ b → is_trivia t.kind ≡ false
    go true e =
        or_cases (eqb t.kind K.Whitespace || eqb t.kind K.LineComment) (eqb t.kind K.BlockComment) e
        (λ f. or_cases (eqb t.kind K.Whitespace) (eqb t.kind K.LineComment) f (never K.Whitespace refl) (never K.LineComment refl))
        (never K.BlockComment refl)
    go false e = e

firsts_name : (raw ts : List Token) → OfName raw → Firsts (length raw) (raw ++ ts)
unfolding Firsts
firsts_name [] ts h = tt
firsts_name (t ∷ raw) ts h = (name_solid t h.0, firsts_name raw ts h.1)

is_of_name : (raw : List Token) → IsName raw → OfName raw
is_of_name [] h = tt
is_of_name (t ∷ raw) h = h

-- what is read off the tokens, with names that are names, is taken
taken_read : (o : Skeleton) (ts : List Token) → Reads o ts → Named o → Taken o ts
unfolding Taken Firsts Reads Named
taken_read done ts r n = tt
taken_read (token t m o) ts r n =
    let d : trivia t ≡ false = subst Solid r.0 (dropped_solid ts) in
    (subst (Firsts 1) (sym r.0) (d, tt), taken_read o _ r.2 n)
taken_read (name raw m o) ts r n =
    (subst (Firsts (length raw)) (sym r.0) (firsts_name raw (drop (length raw) (drop_trivia ts)) (is_of_name raw n.0)), taken_read o _ r.2 n.1)
taken_read (node k m m' a i o) ts r n = (taken_read a _ r.0 n.0, (taken_read i _ r.1 n.1, taken_read o _ r.2 n.2))
taken_read (ignored m m' a i o) ts r n = (taken_read a _ r.0 n.0, (taken_read i _ r.1 n.1, taken_read o _ r.2 n.2))
taken_read (report x o) ts r n = taken_read o ts r n
taken_read (over m o) ts r n = taken_read o ts r n

-- EVERY RUN's
pub entry_taken : (e : Entry) (ts : List Token) → Taken (run_entry e ts) ts
entry_taken e ts = taken_read (run_entry e ts) ts ((entry_reads e ts).reads ts refl) (entry_names e ts)
