-- A rule whose kind has a static text matches that text alone: a test of the rules, computed, and what it says. So the
-- token that a text starts with has a kind that a row may have, and the text of its kind if there is one.
use Prim.Native.Nat.{ℕ, ◌+◌}
use native.Mathlib.Omega.{arith}
use mathlib.Core.Path.{◌≡◌, refl, sym, ap, ◌∙◌, subst}
use mathlib.Core.Logic.{◌⊎◌, inl, inr}
use mathlib.Core.Bool.{Bool, true, false, not, ◌&&◌, ◌||◌, false≢true}
use mathlib.Core.List.{List, [], ◌∷◌, ◌++◌}
use lib.Dec.{leb, eqb}
use lib.ListN.{length, take, drop}
use borrow.Author.Tests.{leb-true, eqb-true, not-true}
use Rattle.definitions.specs.LexError as L
use Rattle.definitions.specs.Token.{Token}
use Rattle.definitions.specs.StaticText.{Text, static_texts, fits_text}
use Rattle.definitions.specs.RowCauses.{is_kind}
use Rattle.definitions.specs.Pattern.{Pattern, nothing, empty, one, other, ◌then◌, ◌or◌, many, within}
use Rattle.definitions.specs.Rules.{Callback, no_callback, lex_block_comment, lex_string, lex_char, lex_bytestring, Rule, rules}
use Rattle.definitions.specs.Lex.{End, ended, unexpected_end, comment_end, quote_end, bracket_end, close, finish}
use Rattle.patterns.specs.Textbook.{Fits}
use Rattle.patterns.proofs.Either.{or_either}
use Rattle.basics.proofs.Tests.{and_left, and_right}
use Rattle.basics.proofs.Lists.{first_same, rest_same, none_some}
use Rattle.lexing.specs.ByRules.{Member, Matches, Starts, by_rule, by_none}

-- ---------------------------------------------------------------- patterns of one text

unfoldable pub exact : Pattern → Bool
exact nothing = false
exact empty = true
exact (one []) = false
exact (one (r ∷ [])) = eqb r.low r.high
exact (one (r ∷ q ∷ rs)) = false
exact (other c) = false
exact (p then q) = exact p && exact q
exact (p or q) = false
exact (many p) = false

-- that text
unfoldable pub spelling : Pattern → List ℕ
spelling nothing = []
spelling empty = []
spelling (one []) = []
spelling (one (r ∷ rs)) = r.low ∷ []
spelling (other c) = []
spelling (p then q) = spelling p ++ spelling q
spelling (p or q) = []
spelling (many p) = []

one_text : (p : Pattern) (u : List ℕ) → exact p ≡ true → Fits p u → u ≡ spelling p
unfolding exact spelling Fits within
one_text nothing u e f = absurd (false≢true e)
one_text empty u e f = f
one_text (one []) u e f = absurd (false≢true e)
one_text (one (r ∷ [])) u e f = f.1 ∙ ap (λ (b : ℕ). b ∷ []) (by (or_either (leb r.low f.0 && leb f.0 r.high) false f.2))
  where
    by : ((leb r.low f.0 && leb f.0 r.high) ≡ true) ⊎ (false ≡ true) → f.0 ≡ r.low
    by (inl g) =
        let a = leb-true r.low f.0 (and_left (leb r.low f.0) (leb f.0 r.high) g) in
        let b = leb-true f.0 r.high (and_right (leb r.low f.0) (leb f.0 r.high) g) in
        let c = eqb-true r.low r.high e in
        omega (arith, a, b, c)
    by (inr g) = absurd (false≢true g)
one_text (one (r ∷ q ∷ rs)) u e f = absurd (false≢true e)
one_text (other c) u e f = absurd (false≢true e)
one_text (p then q) u e f =
    let a : f.0 ≡ spelling p = one_text p f.0 (and_left (exact p) (exact q) e) f.3 in
    let b : f.1 ≡ spelling q = one_text q f.1 (and_right (exact p) (exact q) e) f.4 in
    f.2 ∙ (λ i. a i ++ b i)
one_text (p or q) u e f = absurd (false≢true e)
one_text (many p) u e f = absurd (false≢true e)

-- ---------------------------------------------------------------- kinds without a static text

unfoldable pub no_text : List Text → ℕ → Bool
no_text [] k = true
no_text (e ∷ es) k = not (eqb e.kind k) && no_text es k

any_text : (es : List Text) (k : ℕ) (u : List ℕ) → no_text es k ≡ true → fits_text es k u ≡ true
unfolding no_text fits_text
any_text [] k u h = refl
any_text (e ∷ es) k u h =
    let is = eqb e.kind k in
    rw (not-true is (and_left (not is) (no_text es k) h)) (any_text es k u (and_right (not is) (no_text es k) h))

-- ---------------------------------------------------------------- the rules

abbrev pub is_plain : Callback → Bool
is_plain no_callback = true
is_plain lex_block_comment = false
is_plain lex_string = false
is_plain lex_char = false
is_plain lex_bytestring = false

-- a kind that a row may have; and no static text, or just that text and no callback
unfoldable pub keeps : Rule → Bool
unfolding exact spelling no_text is_kind fits_text
keeps r =
    is_kind r.kind
    && (no_text static_texts r.kind
    || (is_plain r.callback && (exact r.pattern && fits_text static_texts r.kind (spelling r.pattern))))

unfoldable pub every : List Rule → Bool
unfolding keeps
every [] = true
every (r ∷ rs) = keeps r && every rs

pub every_keeps : every rules ≡ true
unfolding every
every_keeps = refl

pub member_keeps : (rs before : List Rule) (r : Rule) → every rs ≡ true → Member r rs before → keeps r ≡ true
unfolding every
member_keeps [] [] r e m = absurd (none_some m.stands)
member_keeps [] (x ∷ before) r e m = absurd (none_some m.stands)
member_keeps (q ∷ rs) [] r e m = subst (λ (q : Rule). keeps q ≡ true) (first_same m.stands) (and_left (keeps q) (every rs) e)
member_keeps (q ∷ rs) (x ∷ before) r e m =
    member_keeps rs before r (and_right (keeps q) (every rs) e) (record { behind = m.behind; stands = rest_same m.stands })

-- ---------------------------------------------------------------- the token that a text starts with

pub record Passes (s : List ℕ) (t : Token) : Type 0 where
  pub a_kind : is_kind t.kind ≡ true
  pub its_text : fits_text static_texts t.kind (take t.len s) ≡ true

-- of a match of n bytes by a rule of this kind and callback: no static text, or what matched is that text
abbrev Kept : ℕ → ℕ → Callback → List ℕ → Type 0
Kept n k c s = ((u : List ℕ) → fits_text static_texts k u ≡ true) ⊎ ((is_plain c ≡ true) × (fits_text static_texts k (take n s) ≡ true))

closed : (k error n : ℕ) (s rest : List ℕ) (e : End) → is_kind k ≡ true → is_kind error ≡ true → no_text static_texts error ≡ true
    → ((u : List ℕ) → fits_text static_texts k u ≡ true) ⊎ ((false ≡ true) × (fits_text static_texts k (take n s) ≡ true))
    → Passes s (close k error n rest e)
closed k error n s rest (ended m) a b f (inl g) = record { a_kind = a; its_text = g (take (n + m) s) }
closed k error n s rest (ended m) a b f (inr g) = absurd (false≢true g.0)
closed k error n s rest unexpected_end a b f g =
    record { a_kind = b; its_text = any_text static_texts error (take (n + length rest) s) f }

finished : (n k : ℕ) (c : Callback) (s rest : List ℕ) → is_kind k ≡ true → Kept n k c s → Passes s (finish n k c rest)
unfolding finish is_kind no_text
finished n k no_callback s rest a (inl g) = record { a_kind = a; its_text = g (take n s) }
finished n k no_callback s rest a (inr g) = record { a_kind = a; its_text = g.1 }
finished n k lex_block_comment s rest a g = closed k L.UnexpectedEndBlockComment n s rest (comment_end rest) a refl refl g
finished n k lex_string s rest a g = closed k L.UnexpectedEndString n s rest (quote_end 34 false rest) a refl refl g
finished n k lex_char s rest a g = closed k L.UnexpectedEndChar n s rest (quote_end 39 false rest) a refl refl g
finished n k lex_bytestring s rest a g = closed k L.UnexpectedEndBytestring n s rest (bracket_end rest) a refl refl g

-- what the test says of a rule that matches
kept : (n : ℕ) (s : List ℕ) (r : Rule) → keeps r ≡ true → Matches s n r → (is_kind r.kind ≡ true) × Kept n r.kind r.callback s
unfolding keeps
kept n s r h m =
    let texts = no_text static_texts r.kind in
    let spells = exact r.pattern && fits_text static_texts r.kind (spelling r.pattern) in (
      and_left (is_kind r.kind) (texts || (is_plain r.callback && spells)) h,
      by (or_either texts (is_plain r.callback && spells) (and_right (is_kind r.kind) (texts || (is_plain r.callback && spells)) h)),
    )
  where
    by : (no_text static_texts r.kind ≡ true)
        ⊎ ((is_plain r.callback && (exact r.pattern && fits_text static_texts r.kind (spelling r.pattern))) ≡ true)
        → Kept n r.kind r.callback s
    by (inl e) = inl (λ u. any_text static_texts r.kind u e)
    by (inr e) =
        let x = exact r.pattern in
        let y = fits_text static_texts r.kind (spelling r.pattern) in
        let spells : (x && y) ≡ true = and_right (is_plain r.callback) (x && y) e in
        let u : take n s ≡ spelling r.pattern = one_text r.pattern (take n s) (and_left x y spells) m.fits in
        inr (
          and_left (is_plain r.callback) (x && y) e,
          subst (λ (u : List ℕ). fits_text static_texts r.kind u ≡ true) (sym u) (and_right x y spells),
        )

pub passes : (s : List ℕ) (t : Token) → Starts s t → Passes s t
unfolding is_kind no_text
passes s t (by_rule n before r w) =
    let k = kept n s r (member_keeps rules before r every_keeps w.a_rule) w.it_matches in
    finished n r.kind r.callback s (drop n s) k.0 k.1
passes s t (by_none h) = record { a_kind = refl; its_text = any_text static_texts 74 (take 1 s) refl }
