-- Macro arguments: an argument token by token, as `role_of` tells what each is.
use Prim.Native.Nat.{ℕ, zero, suc, ◌+◌, ◌-◌, ◌≤◌, ◌<◌}
use mathlib.Core.Path.{◌≡◌, refl, sym, ap, ◌∙◌}
use mathlib.Core.Bool.{Bool, true, false, cond}
use mathlib.Core.List.{List, [], ◌∷◌}
use native.Mathlib.Omega.{arith}
use lib.Dec.{eqb, leb}
use borrow.Author.Tests.{leb-false, ne_eqb}
use lib.ListN.{length, drop}
use Rattle.definitions.specs.Layout.{TWO_TO_64}
use Rattle.definitions.specs.TokenKind as K
use Rattle.definitions.specs.Token.{Token, is_error, seen, ended, first_in}
use Rattle.definitions.specs.Skeleton.{Span}
use Rattle.definitions.specs.Prog.{Ans, no, yes, bump_argument, Rule, act}
use Rattle.definitions.specs.Prog as P
use Rattle.machine.specs.Machine.{Machine, peek, bump}
use Rattle.machine.specs.Machine as M
use Rattle.machine.specs.Walk.{Walked, said, perform, walk, unlabelled}
use Rattle.machine.proofs.Turns.{Few, few_rows, argue, argue_one}
use Rattle.machine.proofs.Turns as T
use Rattle.token_rows.specs.Tokens.{SEEN_AT_END, kind_of}
use Rattle.token_rows.proofs.Seen.{one_of_one}
use Rattle.parser.specs.declared.Parser.{Parser}
use Rattle.parser.specs.View.{view, toks, rest, tokens_left, TakesOne, Same, Becomes, Walks}
use Rattle.parser.proofs.Ways.{acts, same_self, same_then, same_toks}
use Rattle.macros.specs.declared.Role.{Role}
use Rattle.macros.specs.declared.Role.TheVariants.{Comma, End, Inside}
use Rattle.macros.specs.Role.{within, one_less, role}
use Rattle.basics.proofs.Tests.{eqb_swap}

-- ---------------------------------------------------------------- an argument, token by token

-- p: before the token. go: the rest, in so many inner brackets
abbrev pub role_as : Role → Machine → (ℕ → Walked) → Walked
role_as Comma p go = said yes p
role_as End p go = said no p
role_as (Inside n) p go = go n

as_machine : (o c d : Bool) (n : ℕ) (p : Machine) (go : ℕ → Walked)
    → role_as (cond o (Inside (suc n)) (cond c (within n End (Inside (one_less n))) (cond d (within n Comma (Inside n)) (Inside n)))) p go ≡ T.one_token false o c d n p go
as_machine true c d n p go = refl
as_machine false true d zero p go = refl
as_machine false true d (suc n) p go = refl
as_machine false false true zero p go = refl
as_machine false false true (suc n) p go = refl
as_machine false false false n p go = refl

-- a token is seen as one of these
first_is : (k : ℕ) (t : Token) (l : List Token) → eqb (seen t) k ≡ first_in (k ∷ []) (t ∷ l)
unfolding first_in
first_is k t l = eqb_swap (seen t) k ∙ sym (one_of_one k (seen t))

seen_token : (t : Token) → eqb (seen t) SEEN_AT_END ≡ false
unfolding seen is_error
seen_token t = go (leb SEEN_AT_END t.kind) refl
  where
    go : (x : Bool) → leb SEEN_AT_END t.kind ≡ x → eqb (cond x K.Unrecognized t.kind) SEEN_AT_END ≡ false
    go true e = refl
    go false e = ne_eqb t.kind SEEN_AT_END (λ h. omega (arith, leb-false SEEN_AT_END t.kind e, h))

seen_role : (l : List Token) (n : ℕ) (p : Machine) (go : ℕ → Walked)
    → role_as (role (kind_of l) n) p go ≡ T.one_token (ended l) (first_in (K.LParen ∷ []) l) (first_in (K.RParen ∷ []) l) (first_in (K.Comma ∷ []) l) n p go
unfolding role kind_of
seen_role [] n p go = refl
seen_role (t ∷ l) n p go =
    rw (seen_token t, first_is K.LParen t l, first_is K.RParen t l, first_is K.Comma t l)
    (as_machine (first_in (K.LParen ∷ []) (t ∷ l)) (first_in (K.RParen ∷ []) (t ∷ l)) (first_in (K.Comma ∷ []) (t ∷ l)) n p go)

-- what is left of an argument, as a token of it says
pub argued : (ts : List Token) (n : ℕ) (m p : Machine) (x : Role) → Few ts → p ≡ peek ts m → x ≡ role (kind_of (M.rest ts p)) n → role_as x p (λ k. argue ts k (bump ts p)) ≡ argue ts n m
argued ts n m p x few e f =
    ap (λ (y : Role). role_as y p (λ k. argue ts k (bump ts p))) f ∙ seen_role (M.rest ts p) n p (λ k. argue ts k (bump ts p))
    ∙ ap (λ (q : Machine). T.one_token (ended (M.rest ts q)) (first_in (K.LParen ∷ []) (M.rest ts q)) (first_in (K.RParen ∷ []) (M.rest ts q)) (first_in (K.Comma ∷ []) (M.rest ts q)) n q (λ k. argue ts k (bump ts q))) e
    ∙ argue_one ts n m few

argue_whole : (ts : List Token) (b : Span) (m : Machine) → argue ts 0 m ≡ perform ts b bump_argument m
unfolding perform argue
argue_whole ts b m = refl

bumped : (ask : Rule → Machine → Walked) (ts : List Token) (b : Span) (m : Machine) → (walk ask ts b (act P.bump) m).on ≡ bump ts m
unfolding walk perform
bumped ask ts b m = refl

-- ---------------------------------------------------------------- what an answer says of the token

abbrev tag : Role → ℕ
tag Comma = 0
tag End = 1
tag (Inside n) = 2

-- only past the last token is there an end
pub comma_some : (k n : ℕ) (x : Role) → x ≡ role k n → x ≡ Comma → k ≡ SEEN_AT_END → ⊥
unfolding role
comma_some k n x e f g = let z : ◌≡◌ {A = ℕ} 0 1 = ap tag (sym f ∙ e ∙ ap (λ (j : ℕ). role j n) g) in absurd (omega (arith, z))

pub inside_some : (k n j : ℕ) (x : Role) → x ≡ role k n → x ≡ Inside j → k ≡ SEEN_AT_END → ⊥
unfolding role
inside_some k n j x e f g = let z : ◌≡◌ {A = ℕ} 2 1 = ap tag (sym f ∙ e ∙ ap (λ (j : ℕ). role j n) g) in absurd (omega (arith, z))

abbrev open_brackets : Role → ℕ
open_brackets Comma = 0
open_brackets End = 0
open_brackets (Inside n) = n

at_most : (e o c d : Bool) (n : ℕ)
    → open_brackets (cond e End (cond o (Inside (suc n)) (cond c (within n End (Inside (one_less n))) (cond d (within n Comma (Inside n)) (Inside n))))) ≤ n + 1
at_most true o c d n = omega arith
at_most false true c d n = omega arith
at_most false false true d zero = omega arith
at_most false false true d (suc n) = omega arith
at_most false false false true zero = omega arith
at_most false false false true (suc n) = omega arith
at_most false false false false n = omega arith

-- one more bracket at most
pub inside_most : (k n j : ℕ) (x : Role) → x ≡ role k n → x ≡ Inside j → j ≤ n + 1
unfolding role
inside_most k n j x e f =
    let z : j ≡ open_brackets (role k n) = ap open_brackets (sym f ∙ e) in
    omega (arith, z, at_most (eqb k SEEN_AT_END) (eqb k K.LParen) (eqb k K.RParen) (eqb k K.Comma) n)

-- ---------------------------------------------------------------- from token to token

-- the argument's rest from q, with n brackets open, is the argument from p; for each bracket a token was taken
pub record Remaining (p : Parser) (n : ℕ) (q : Parser) : Type 0 where
  pub is : argue (toks p) n (view q) ≡ argue (toks p) 0 (view p)
  pub same : Same p q
  pub left : n + tokens_left q ≤ tokens_left p

pub all_of_it : {p : Parser} → Remaining p 0 p
all_of_it {p = p} = record { is = refl; same = same_self; left = omega arith }

-- fewer tokens than a number can count
pub few_left : (p : Parser) → length p.tokens.now < TWO_TO_64 → tokens_left p < TWO_TO_64 - 1
unfolding tokens_left
few_left p h = omega (arith, h)

-- r: at the next token, of kind k; x: what it is
module _ {p q r : Parser} {n k : ℕ} {x : Role} (h : length p.tokens.now < TWO_TO_64) (w : Remaining p n q) (e : Becomes (M.peek (toks q)) q r) (i : k ≡ kind_of (rest r)) (f : x ≡ role k n) where
  to : Same p r
  to = same_then w.same e.same

  here : role_as x (view r) (λ j. argue (toks p) j (bump (toks p) (view r))) ≡ argue (toks p) 0 (view p)
  here =
      argued (toks p) n (view q) (view r) x (few_rows p.tokens.now h) (e.is ∙ ap (λ (ts : List Token). M.peek ts (view q)) (same_toks w.same))
      (f ∙ ap (λ (j : ℕ). role j n) i ∙ ap (λ (ts : List Token). role (kind_of (drop r.cursor.0 ts)) n) (same_toks to)) ∙ w.is

  -- an argument that ends here
  pub done : (a : Ans) → (said a (view r) ≡ role_as x (view r) (λ j. argue (toks p) j (bump (toks p) (view r)))) → Walks (act bump_argument) p a r
  done a g = acts (λ b. g ∙ here ∙ argue_whole (toks p) b (view p)) to (omega (arith, w.left, e.left))

  pub done_comma : x ≡ Comma → Walks (act bump_argument) p yes r
  done_comma g = done yes (ap (λ (y : Role). role_as y (view r) (λ j. argue (toks p) j (bump (toks p) (view r)))) (sym g))

  pub done_end : x ≡ End → Walks (act bump_argument) p no r
  done_end g = done no (ap (λ (y : Role). role_as y (view r) (λ j. argue (toks p) j (bump (toks p) (view r)))) (sym g))

  -- one that goes on
  pub further : {s : Parser} {j : ℕ} → x ≡ Inside j → 0 < tokens_left r → Walks (act P.bump) r yes s → TakesOne r s → Remaining p j s
  further {s = s} {j = j} g some z t =
      let ask : List Token → Rule → Machine → Walked = λ ts c m. said no m in
      let v = z.way ask unlabelled in
      let b : view s ≡ bump (toks p) (view r) =
      ap (λ (y : Walked). y.on) v.is ∙ bumped (ask (toks r)) (toks r) unlabelled (view r) ∙ ap (λ (ts : List Token). bump ts (view r)) (same_toks to) in
      record {
        is = ap (argue (toks p) j) b ∙ ap (λ (y : Role). role_as y (view r) (λ i. argue (toks p) i (bump (toks p) (view r)))) (sym g) ∙ here;
        same = same_then to z.same;
        left = let most = inside_most k n j x f g in omega (arith, w.left, e.left, t, most, some);
      }
