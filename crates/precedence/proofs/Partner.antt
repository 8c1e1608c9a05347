-- A cell that is read without a report has an RParen that balances its LParen; so where none does, a report was made
-- after the LParen.
use Prim.Native.Nat.{ℕ, ◌≤◌}
use native.Mathlib.Omega.{arith}
use mathlib.Core.Path.{◌≡◌, refl, sym, ◌∙◌, ap}
use mathlib.Core.Logic.{◌⊎◌}
use mathlib.Core.Bool.{Bool, true, false, cond, ◌&&◌}
use mathlib.Core.List.{List, [], ◌∷◌, ◌++◌}
use lib.Dec.{eqb}
use lib.ListN.{length}
use Rattle.definitions.specs.TokenKind as K
use Rattle.definitions.specs.Token.{Token, seen, trivia}
use Rattle.definitions.specs.Skeleton.{Report}
use Rattle.definitions.specs.Report.{Push}
use Rattle.definitions.specs.C.{Symbol, plain, arguments, symbol, symbols, Balanced}
use Rattle.precedence.proofs.Pushed.{Reported}
use Rattle.precedence.proofs.Symbols.{symbols_solid, symbols_blank}

-- an RParen balances the LParen, `beyond` being the tokens after it
pub record Partner (beyond : List Token) : Type 0 where
  pub inner : List Token
  pub close : Token
  pub after : List Token
  pub split : beyond ≡ inner ++ (close ∷ after)
  pub closes : seen close ≡ K.RParen
  pub balanced : Balanced (symbols false inner)

-- among the pushes is a report with a mark above the LParen's index, counted from the end
pub record Heard (whole : List Push) (beyond : List Token) : Type 0 where
  pub rep : Report
  pub among : Reported rep whole
  pub low : rep.mark ≤ length beyond

-- and it is at most the index just past the cell's last token, where `end` tokens are left
pub record HeardInside (whole : List Push) (beyond : List Token) (end : ℕ) : Type 0 where
  pub rep : Report
  pub among : Reported rep whole
  pub low : rep.mark ≤ length beyond
  pub high : end ≤ rep.mark

-- one of the two
abbrev pub Paired : List Push → List Token → Type 0
Paired whole beyond = Partner beyond ⊎ Heard whole beyond

-- ---------------------------------------------------------------- from symbols to tokens

-- the token whose symbol is the RParen after xs; b: an Ident stands directly before the tokens
record Found (b : Bool) (ts : List Token) (xs : List Symbol) : Type 0 where
  inner : List Token
  close : Token
  after : List Token
  split : ts ≡ inner ++ (close ∷ after)
  closes : seen close ≡ K.RParen
  symbols_are : symbols b inner ≡ xs

closing_symbol : (b : Bool) (t : Token) → symbol b t ≡ plain K.RParen → seen t ≡ K.RParen
unfolding symbol
closing_symbol b t e = go (b && eqb (seen t) K.LParen) e
  where
    go : (c : Bool) → cond c arguments (plain (seen t)) ≡ plain K.RParen → seen t ≡ K.RParen
    go true h = cc
    go false h = cc

-- a token more in front
found_blank : (b : Bool) (t : Token) (ts : List Token) (xs : List Symbol) → trivia t ≡ true → Found false ts xs → Found b (t ∷ ts) xs
found_blank b t ts xs e f =
    record {
      inner = t ∷ f.inner;
      close = f.close;
      after = f.after;
      split = ap (t ∷◌) f.split;
      closes = f.closes;
      symbols_are = symbols_blank b t f.inner e ∙ f.symbols_are;
    }

found_solid : (b : Bool) (t : Token) (ts : List Token) (x : Symbol) (xs : List Symbol) → trivia t ≡ false → symbol b t ≡ x → Found (eqb (seen t) K.Ident) ts xs
    → Found b (t ∷ ts) (x ∷ xs)
found_solid b t ts x xs e s f =
    record {
      inner = t ∷ f.inner;
      close = f.close;
      after = f.after;
      split = ap (t ∷◌) f.split;
      closes = f.closes;
      symbols_are = symbols_solid b t f.inner e ∙ ap (◌∷ symbols (eqb (seen t) K.Ident) f.inner) s ∙ ap (x ∷◌) f.symbols_are;
    }

find_close : (b : Bool) (ts : List Token) (xs vs : List Symbol) → symbols b ts ≡ xs ++ (plain K.RParen ∷ vs) → Found b ts xs
unfolding symbols
find_close b [] [] vs e = let z : ◌≡◌ {A = ℕ} 1 0 = cc e in absurd (omega arith)
find_close b [] (x ∷ xs) vs e = let z : ◌≡◌ {A = ℕ} 1 0 = cc e in absurd (omega arith)
find_close b (t ∷ ts) xs vs e = go (trivia t) refl xs e (λ ys h. find_close false ts ys vs h) (λ ys h. find_close (eqb (seen t) K.Ident) ts ys vs h)
  where
    go : (c : Bool) → trivia t ≡ c → (xs : List Symbol) → symbols b (t ∷ ts) ≡ xs ++ (plain K.RParen ∷ vs)
        → ((ys : List Symbol) → symbols false ts ≡ ys ++ (plain K.RParen ∷ vs) → Found false ts ys)
        → ((ys : List Symbol) → symbols (eqb (seen t) K.Ident) ts ≡ ys ++ (plain K.RParen ∷ vs) → Found (eqb (seen t) K.Ident) ts ys)
        → Found b (t ∷ ts) xs
    go true z xs h blank solid = found_blank b t ts xs z (blank xs (sym (symbols_blank b t ts z) ∙ h))
    go false z [] h blank solid =
        let w = sym (symbols_solid b t ts z) ∙ h in
        record { inner = []; close = t; after = ts; split = refl; closes = closing_symbol b t (cc w); symbols_are = refl }
    go false z (x ∷ xs) h blank solid =
        let w = sym (symbols_solid b t ts z) ∙ h in
        found_solid b t ts x xs z (cc w) (solid xs (cc w))

-- THE PARTNER, from the symbols
pub partner_of : (ts : List Token) (xs vs : List Symbol) → Balanced xs → symbols false ts ≡ xs ++ (plain K.RParen ∷ vs) → Partner ts
partner_of ts xs vs b e =
    let f = find_close false ts xs vs e in
    record { inner = f.inner; close = f.close; after = f.after; split = f.split; closes = f.closes; balanced = rw f.symbols_are b }
