-- The symbols of raw tokens, seen from the cursor: trivia in front make no difference, and an Ident does only to a
-- bracket directly after it.
use Prim.Native.Nat.{ℕ, ◌≤◌, ◌<◌}
use native.Mathlib.Omega.{arith}
use mathlib.Core.Path.{◌≡◌, refl, sym, ◌∙◌, ap, subst}
use mathlib.Core.Bool.{Bool, true, false, cond, true≢false, false≢true}
use mathlib.Core.List.{List, [], ◌∷◌, ◌++◌, append_assoc}
use borrow.Author.Tests.{eqb-true, eqb-false, ne_eqb, leb-true, leb-false}
use lib.Dec.{eqb, leb}
use lib.ListN.{length, length-append}
use Rattle.definitions.specs.LexError as L
use Rattle.definitions.specs.Layout.{MOST_OPEN_CALLS}
use Rattle.definitions.specs.TokenKind as K
use Rattle.definitions.specs.Token.{Token, is_error, seen, trivia, drop_trivia, one_of, first_in}
use Rattle.definitions.specs.C.{Symbol, plain, arguments, symbol, symbols, opens, change}
use Rattle.laws.proofs.Trivia.{Solid, dropped_solid, drop_trivium, drop_none, drop_trivia_length, Passes, passes_all}

-- ---------------------------------------------------------------- the first symbol

pub symbols_solid : (b : Bool) (t : Token) (ts : List Token) → trivia t ≡ false
    → symbols b (t ∷ ts) ≡ symbol b t ∷ symbols (eqb (seen t) K.Ident) ts
unfolding symbols
symbols_solid b t ts h = ap (λ (c : Bool). cond c (symbols false ts) (symbol b t ∷ symbols (eqb (seen t) K.Ident) ts)) h

pub symbols_blank : (b : Bool) (t : Token) (ts : List Token) → trivia t ≡ true → symbols b (t ∷ ts) ≡ symbols false ts
unfolding symbols
symbols_blank b t ts h = ap (λ (c : Bool). cond c (symbols false ts) (symbol b t ∷ symbols (eqb (seen t) K.Ident) ts)) h

pub symbol_apart : (t : Token) → symbol false t ≡ plain (seen t)
unfolding symbol
symbol_apart t = refl

-- trivia in front are passed over
pub symbols_drop : (ts : List Token) → symbols false ts ≡ symbols false (drop_trivia ts)
unfolding drop_trivia symbols
symbols_drop [] = refl
symbols_drop (t ∷ ts) = go (trivia t) refl (symbols_drop ts)
  where
    go : (b : Bool) → trivia t ≡ b → symbols false ts ≡ symbols false (drop_trivia ts)
        → symbols false (t ∷ ts) ≡ symbols false (cond b (drop_trivia ts) (t ∷ ts))
    go true e h = symbols_blank false t ts e ∙ h
    go false e h = refl

pub symbols_end : (ts : List Token) → drop_trivia ts ≡ [] → symbols false ts ≡ []
unfolding symbols
symbols_end ts h = symbols_drop ts ∙ ap (symbols false) h

pub solid_first : (r : List Token) (t : Token) (ts : List Token) → drop_trivia r ≡ t ∷ ts → trivia t ≡ false
solid_first r t ts h = subst Solid h (dropped_solid r)

pub symbols_next : (r : List Token) (t : Token) (ts : List Token) → drop_trivia r ≡ t ∷ ts
    → symbols false r ≡ plain (seen t) ∷ symbols (eqb (seen t) K.Ident) ts
symbols_next r t ts h =
    symbols_drop r ∙ ap (symbols false) h ∙ symbols_solid false t ts (solid_first r t ts h)
    ∙ ap (λ (x : Symbol). x ∷ symbols (eqb (seen t) K.Ident) ts) (symbol_apart t)

-- after a token that is not an Ident
pub symbols_past : (r : List Token) (t : Token) (ts : List Token) → drop_trivia r ≡ t ∷ ts → eqb (seen t) K.Ident ≡ false
    → symbols false r ≡ plain (seen t) ∷ symbols false ts
symbols_past r t ts h e = symbols_next r t ts h ∙ ap (λ (b : Bool). plain (seen t) ∷ symbols b ts) e

-- ---------------------------------------------------------------- after an Ident

-- what is seen of a kind
abbrev seen_kind : ℕ → ℕ
seen_kind k = cond (leb L.UnexpectedEndIncbin k) K.Unrecognized k

kind_not : (k j n : ℕ) → seen_kind j ≡ j → (j ≡ n → ⊥) → seen_kind k ≡ n → eqb k j ≡ false
kind_not k j n e d h = ne_eqb k j (λ z. d (sym e ∙ sym (ap seen_kind z) ∙ h))

-- what is seen as a kind that is not trivia's is not trivia
solid_seen : (t : Token) (k : ℕ) → seen t ≡ k → (K.Whitespace ≡ k → ⊥) → (K.LineComment ≡ k → ⊥) → (K.BlockComment ≡ k → ⊥) → trivia t ≡ false
unfolding seen is_error trivia
solid_seen t k h a b c =
    rw (kind_not t.kind K.Whitespace k refl a h, kind_not t.kind K.LineComment k refl b h, kind_not t.kind K.BlockComment k refl c h)

-- brackets are not trivia
pub bracket_solid : (t : Token) → seen t ≡ K.LParen → trivia t ≡ false
bracket_solid t h = solid_seen t K.LParen h (λ z. omega arith) (λ z. omega arith) (λ z. omega arith)

pub close_solid : (t : Token) → seen t ≡ K.RParen → trivia t ≡ false
close_solid t h = solid_seen t K.RParen h (λ z. omega arith) (λ z. omega arith) (λ z. omega arith)

pub test_one : (k j : ℕ) → one_of (k ∷ []) j ≡ true → j ≡ k
unfolding one_of
test_one k j h = go (eqb k j) refl h
  where
    go : (b : Bool) → eqb k j ≡ b → cond b true false ≡ true → j ≡ k
    go true e g = sym (eqb-true k j e)
    go false e g = absurd (false≢true g)

-- a bracket directly after it opens its arguments
pub symbols_arguments : (t : Token) (ts : List Token) → first_in (K.LParen ∷ []) (t ∷ ts) ≡ true → symbols true (t ∷ ts) ≡ arguments ∷ symbols false ts
unfolding first_in symbol
symbols_arguments t ts h =
    let e : seen t ≡ K.LParen = test_one K.LParen (seen t) h in
    symbols_solid true t ts (bracket_solid t e) ∙ rw e refl

test_other : (k j : ℕ) → one_of (k ∷ []) j ≡ false → eqb j k ≡ false
unfolding one_of
test_other k j h = go (eqb k j) refl h
  where
    go : (b : Bool) → eqb k j ≡ b → cond b true false ≡ false → eqb j k ≡ false
    go true e g = absurd (true≢false g)
    go false e g = ne_eqb j k (λ z. eqb-false k j e (sym z))

-- after any other token, an Ident in front makes no difference
pub symbols_apart : (ts : List Token) → first_in (K.LParen ∷ []) ts ≡ false → symbols true ts ≡ symbols false ts
unfolding first_in symbol symbols
symbols_apart [] h = refl
symbols_apart (t ∷ ts) h = rw (test_other K.LParen (seen t) h)

-- ---------------------------------------------------------------- what is left of the tokens

-- us is what is left of ts
pub record Tail (us ts : List Token) : Type 0 where
  pub front : List Token
  pub split : ts ≡ front ++ us

pub tail_refl : (ts : List Token) → Tail ts ts
tail_refl ts = record { front = []; split = refl }

pub tail_trans : (us vs ts : List Token) → Tail us vs → Tail vs ts → Tail us ts
tail_trans us vs ts p q =
    record { front = q.front ++ p.front; split = q.split ∙ ap (q.front ++◌) p.split ∙ sym (append_assoc q.front p.front us) }

pub tail_length : (us ts : List Token) → Tail us ts → length us ≤ length ts
tail_length us ts p = omega (arith, simp length-append at (ap length p.split))

pub tail_passes : (ts us : List Token) → Passes ts us → Tail us ts
tail_passes ts us p = record { front = p.over; split = p.split }

-- what stands after the next token
pub tail_next : (r : List Token) (t : Token) (ts : List Token) → drop_trivia r ≡ t ∷ ts → Tail ts r
tail_next r t ts h =
    let p = passes_all r in
    record { front = p.over ++ (t ∷ []); split = p.split ∙ rw h (sym (append_assoc p.over (t ∷ []) ts)) }

-- of two that are left of the same tokens the shorter is left of the longer
pub tail_shorter : (xs ys us vs : List Token) → xs ++ us ≡ ys ++ vs → length us ≤ length vs → Tail us vs
tail_shorter xs [] us vs e h = record { front = xs; split = sym e }
tail_shorter [] (y ∷ ys) us vs e h = absurd (omega (arith, simp length-append at (ap length e)))
tail_shorter (x ∷ xs) (y ∷ ys) us vs e h = tail_shorter xs ys us vs (cc) h

-- how many symbols there are does not depend on what stands in front
symbols_count : (b c : Bool) (ts : List Token) → length (symbols b ts) ≡ length (symbols c ts)
unfolding symbols
symbols_count b c [] = refl
symbols_count b c (t ∷ ts) = go (trivia t)
  where
    go : (d : Bool)
        → length (cond d (symbols false ts) (symbol b t ∷ symbols (eqb (seen t) K.Ident) ts))
        ≡ length (cond d (symbols false ts) (symbol c t ∷ symbols (eqb (seen t) K.Ident) ts))
    go true = refl
    go false = refl

symbols_fewer : (b c : Bool) (xs us : List Token) → length (symbols b us) ≤ length (symbols c (xs ++ us))
symbols_fewer b c [] us = omega (arith, symbols_count b c us)
symbols_fewer b c (x ∷ xs) us = go (trivia x) refl (λ d. symbols_fewer b d xs us)
  where
    go : (d : Bool) → trivia x ≡ d → ((a : Bool) → length (symbols b us) ≤ length (symbols a (xs ++ us)))
        → length (symbols b us) ≤ length (symbols c (x ∷ (xs ++ us)))
    go true e h = rw (symbols_blank c x (xs ++ us) e) (h false)
    go false e h = rw (symbols_solid c x (xs ++ us) e) (omega (arith, h (eqb (seen x) K.Ident)))

-- What is left of the tokens still has the bracket that balances, if its symbols do: `beyond` are the tokens after the
-- bracket t.
pub still_there : (r raw inner beyond : List Token) (t : Token) (xs : List Symbol) → Tail raw r → r ≡ inner ++ (t ∷ beyond)
    → symbols false raw ≡ xs ++ (plain K.RParen ∷ symbols false beyond) → length (t ∷ beyond) ≤ length raw
still_there r raw inner beyond t xs p e h = go (leb (length raw) (length beyond)) refl
  where
    go : (b : Bool) → leb (length raw) (length beyond) ≡ b → length (t ∷ beyond) ≤ length raw
    go true l =
        let z : Tail raw beyond = tail_shorter p.front (inner ++ (t ∷ [])) raw beyond (sym p.split ∙ e ∙ sym (append_assoc inner (t ∷ []) beyond)) (leb-true (length raw) (length beyond) l) in
        let f : length (symbols false raw) ≤ length (symbols false (z.front ++ raw)) = symbols_fewer false false z.front raw in
        let g : length (symbols false raw) ≤ length (symbols false beyond) = rw (← z.split) at f in
        absurd (omega (arith, simp length-append at (ap length h)))
    go false l = leb-false (length raw) (length beyond) l

-- what a peek comes to is no longer further on
pub ahead_length : (us ts : List Token) → Tail us ts → length (drop_trivia us) ≤ length (drop_trivia ts)
ahead_length us ts p = rw p.split (go p.front)
  where
    step : (x : Token) (xs : List Token) → (b : Bool) → trivia x ≡ b → length (drop_trivia us) ≤ length (drop_trivia (xs ++ us))
        → length (drop_trivia us) ≤ length (drop_trivia (x ∷ (xs ++ us)))
    step x xs true e h = rw (drop_trivium x (xs ++ us) e) h
    step x xs false e h = rw (drop_none x (xs ++ us) e) (omega (arith, drop_trivia_length us, length-append xs us))

    go : (xs : List Token) → length (drop_trivia us) ≤ length (drop_trivia (xs ++ us))
    go [] = omega arith
    go (x ∷ xs) = step x xs (trivia x) refl (go xs)

-- ---------------------------------------------------------------- brackets and commas by the raw kind

-- a kind that no error token is seen as
raw_by : (k j : ℕ) → j < L.UnexpectedEndIncbin → (j ≡ K.Unrecognized → ⊥) → (b : Bool) → leb L.UnexpectedEndIncbin k ≡ b → eqb k j ≡ eqb (cond b K.Unrecognized k) j
raw_by k j l d true e =
    let h = leb-true MOST_OPEN_CALLS k e in
    ne_eqb k j (λ z. omega arith) ∙ sym (ne_eqb K.Unrecognized j (λ z. d (sym z)))
raw_by k j l d false e = refl

pub raw_kind : (t : Token) (j : ℕ) → j < L.UnexpectedEndIncbin → (j ≡ K.Unrecognized → ⊥) → eqb t.kind j ≡ eqb (seen t) j
unfolding seen is_error
raw_kind t j l d = raw_by t.kind j l d (leb L.UnexpectedEndIncbin t.kind) refl

pub turn_opens : (b : Bool) (t : Token) → eqb (seen t) K.LParen ≡ true → change (symbol b t) ≡ opens
unfolding symbol
turn_opens true t e = rw e
turn_opens false t e = rw e

pub symbol_kind : (b : Bool) (t : Token) → eqb (seen t) K.LParen ≡ false → symbol b t ≡ plain (seen t)
unfolding symbol
symbol_kind true t e = rw e
symbol_kind false t e = refl

-- ---------------------------------------------------------------- up to a closing bracket

close_apart : (b : Bool) (t : Token) (ts : List Token) → seen t ≡ K.RParen → trivia t ≡ false → symbols b (t ∷ ts) ≡ plain K.RParen ∷ symbols false ts
close_apart b t ts e s =
    symbols_solid b t ts s ∙ rw (symbol_kind b t (ap (λ (k : ℕ). eqb k K.LParen) e), ap (λ (k : ℕ). eqb k K.Ident) e) (ap (λ (k : ℕ). plain k ∷ symbols false ts) e)

-- the symbols of what stands before it, the bracket's, and those of what stands after it
pub symbols_split : (b : Bool) (xs : List Token) (t : Token) (ts : List Token) → seen t ≡ K.RParen
    → symbols b (xs ++ (t ∷ ts)) ≡ symbols b xs ++ (plain K.RParen ∷ symbols false ts)
unfolding symbols
symbols_split b [] t ts e = close_apart b t ts e (close_solid t e)
symbols_split b (x ∷ xs) t ts e = go (trivia x) (λ c. symbols_split c xs t ts e)
  where
    go : (d : Bool) → ((c : Bool) → symbols c (xs ++ (t ∷ ts)) ≡ symbols c xs ++ (plain K.RParen ∷ symbols false ts))
        → cond d (symbols false (xs ++ (t ∷ ts))) (symbol b x ∷ symbols (eqb (seen x) K.Ident) (xs ++ (t ∷ ts)))
        ≡ cond d (symbols false xs) (symbol b x ∷ symbols (eqb (seen x) K.Ident) xs) ++ (plain K.RParen ∷ symbols false ts)
    go true h = h false
    go false h = ap (symbol b x ∷◌) (h (eqb (seen x) K.Ident))

-- What is left of the tokens has lost the bracket, if its symbols have.
pub gone_by : (r raw inner beyond : List Token) (t : Token) → Tail raw r → r ≡ inner ++ (t ∷ beyond) → seen t ≡ K.RParen
    → symbols false raw ≡ symbols false beyond → length raw ≤ length beyond
gone_by r raw inner beyond t p e k h = go (leb (length raw) (length beyond)) refl
  where
    go : (b : Bool) → leb (length raw) (length beyond) ≡ b → length raw ≤ length beyond
    go true l = leb-true (length raw) (length beyond) l
    go false l =
        let z : Tail (t ∷ beyond) raw = tail_shorter inner p.front (t ∷ beyond) raw (sym e ∙ p.split) (leb-false (length raw) (length beyond) l) in
        let f : length (symbols false (t ∷ beyond)) ≤ length (symbols false (z.front ++ (t ∷ beyond))) = symbols_fewer false false z.front (t ∷ beyond) in
        let g : length (symbols false (t ∷ beyond)) ≤ length (symbols false raw) = rw (← z.split) at f in
        absurd (omega (arith, ap length h, ap length (close_apart false t beyond k (close_solid t k))))
