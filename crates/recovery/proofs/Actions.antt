-- The analysis is sound for each action.
use Prim.Native.Nat.{ℕ, zero, suc, ◌≤◌, ◌<◌}
use mathlib.Core.Logic.{inl, inr}
use mathlib.Core.Path.{◌≡◌, refl, ap, sym, ◌∙◌, subst}
use mathlib.Core.Bool.{Bool, true, false, cond, not, ◌&&◌, false≢true}
use mathlib.Core.List.{List, [], ◌∷◌}
use lib.Dec.{ltb, eqb}
use lib.ListN.{length}
use borrow.Author.Tests.{eqb-true}
use Rattle.definitions.specs.TokenKind as K
use Rattle.definitions.specs.Errors as E
use Rattle.definitions.specs.Token.{Token, seen, trivia, drop_trivia, past, ended, one_of, first_in}
use Rattle.definitions.specs.Prog.{Ans, no, yes, also, again, Act, silent_at, at_end, immediate, immediate_next, add_expected, bump, bump_name, bump_argument, emit, emit_unclosed, less}
use Rattle.definitions.specs.Skeleton.{Label, no_label, Skeleton, done, token}
use Rattle.definitions.specs.Run.{State, Out, peeked, truth, replies, makes, taken, do_bump, do_name, add, at_depth, do_argument, do_emit, do_expected, perform}
use Rattle.definitions.specs.Place.{Tree, nil, leaf, ◌⊕◌, lead, front, after, place}
use Rattle.definitions.specs.Report.{pushes, reports}
use Rattle.basics.proofs.Tests.{and_left, and_right, cond-all}
use Rattle.laws.proofs.Trivia.{drop_twice, drop_trivia_length, passes_drop}
use Rattle.recovery.proofs.Analysis.{low, high, Known, idle, know, ends, Post, any_answer, act_surely}
use Rattle.recovery.proofs.Meaning.{ends_in, Quiet, quiet_beside, Sealed, OfRank, Head, Holds, Ends}
use Rattle.recovery.proofs.Going.{At}

abbrev pub Ending : Post → State → List Token → Out → Type 0
Ending P s ts o = Ends P s ts o.shape o.ans o.made o.state

pub any_of : (f : Ans → Bool) → any_answer f ≡ true → (x : Ans) → f x ≡ true
any_of f e no = and_left (f no) _ e
any_of f e yes = and_left (f yes) _ (and_right (f no) _ e)
any_of f e also = and_left (f also) _ (and_right (f yes) _ (and_right (f no) _ e))
any_of f e again = and_right (f also) _ (and_right (f yes) _ (and_right (f no) _ e))

-- ---------------------------------------------------------------- what takes nothing, and what is taken

-- nothing done
pub stays : (h : Bool) (s : State) (ts : List Token) → Head h s → Holds (idle h) s ts done s
unfolding place ends_in Quiet
stays h s ts x = record { still = λ _. (refl, refl); head = x; tail = refl; part = tt }

-- nothing placed
pub looks : (h : Bool) (s u : State) (ts : List Token) (p : Skeleton) → place p ts ≡ nil → Head h u → Holds (know h low low) s ts p u
unfolding ends_in Quiet
looks h s u ts p e x = record { still = λ y. absurd (false≢true y); head = x; tail = ap (ends_in false) e; part = subst Quiet (sym e) tt }

-- anything may have been made
pub unknown : (s u : State) (ts : List Token) (p : Skeleton) → Holds (know true high high) s ts p u
unknown s u ts p = record { still = λ y. absurd (false≢true y); head = λ _. refl; tail = tt; part = tt }

-- a part that is not a statement that ends in a semicolon of its own
pub lead_ends : (ts : List Token) (f : Tree) → ((a b : Bool) → ends_in a f ≡ ends_in b f) → (b : Bool) → ends_in b (lead ts ⊕ f) ≡ ends_in false f
unfolding lead ◌⊕◌ ends_in
lead_ends [] f x b = x b false
lead_ends (t ∷ ts) f x b = go (trivia t) (lead_ends ts f x (eqb t.kind K.Semicolon))
  where
    go : (c : Bool) → ends_in (eqb t.kind K.Semicolon) (lead ts ⊕ f) ≡ ends_in false f → ends_in b (cond c (leaf t.kind (t ∷ []) (lead ts)) nil ⊕ f) ≡ ends_in false f
    go true h = h
    go false h = x b false

pub lead_quiet : (ts : List Token) → Quiet (lead ts)
unfolding lead Quiet
lead_quiet [] = tt
lead_quiet (t ∷ ts) = cond-all Quiet (trivia t) {x = leaf t.kind (t ∷ []) (lead ts)} {y = nil} (lead_quiet ts) tt

pub before_quiet : (ts : List Token) (f : Tree) → Quiet f → Quiet (lead ts ⊕ f)
before_quiet ts f h = quiet_beside (lead ts) f (lead_quiet ts) h

-- ---------------------------------------------------------------- the actions

first_semicolon : (ks : List ℕ) (l : List Token) → first_in (K.Semicolon ∷ []) l ≡ true → first_in ks l ≡ one_of ks K.Semicolon
unfolding first_in one_of
first_semicolon ks [] e = absurd (false≢true e)
first_semicolon ks (t ∷ ts) e = go (eqb K.Semicolon (seen t)) refl e
  where
    go : (b : Bool) → eqb K.Semicolon (seen t) ≡ b → cond b true false ≡ true → one_of ks (seen t) ≡ one_of ks K.Semicolon
    go true x y = ap (one_of ks) (sym (eqb-true K.Semicolon (seen t) x))
    go false x y = absurd (false≢true y)

seen_first : (t : Token) (ts : List Token) → eqb (seen t) K.Semicolon ≡ true → first_in (K.Semicolon ∷ []) (t ∷ ts) ≡ true
unfolding first_in one_of
seen_first t ts e = rw (eqb-true (seen t) K.Semicolon e) refl

both : (a b : Bool) → a ≡ true → b ≡ true → a && b ≡ true
both a b p q = rw (p, q) refl

ended_none : (l : List Token) → ended l ≡ true → first_in (K.Semicolon ∷ []) l ≡ true → false ≡ true
unfolding first_in
ended_none [] e x = x
ended_none (t ∷ ts) e x = e

peek_head : (h : Bool) (s : State) → Head h s → Head h (peeked s)
unfolding peeked
peek_head h s x e = x (ap (first_in (K.Semicolon ∷ [])) (sym (drop_twice s.rest)) ∙ e)

-- where placing looks for a token that the run takes
at_first : (s : State) (ts us : List Token) → At s ts → us ≡ drop_trivia s.rest → drop_trivia ts ≡ us
at_first s ts us a e = a.same ∙ passes_drop s.since s.rest a.stands.passed ∙ sym e

-- a token taken: if it may be a semicolon, the run stands right after it
token_tail : (h : Bool) (s : State) (ts : List Token) (t : Token) (us : List Token) → length us < length s.rest → drop_trivia ts ≡ t ∷ us
    → ends_in false (place (token t (length us) done) ts) ≡ eqb (seen t) K.Semicolon → (eqb (seen t) K.Semicolon ≡ true → h ≡ true)
    → OfRank (ends h) (ends_in false (place (token t (length us) done) ts) ≡ false) (Sealed s ts (token t (length us) done) (taken us))
unfolding pushes reports after
token_tail true s ts t us l d q y = inr (record { rest = us; is = refl; less = l; above = tt; exact = ap past d })
token_tail false s ts t us l d q y = q ∙ go (eqb (seen t) K.Semicolon) y
  where
    go : (b : Bool) → (b ≡ true → false ≡ true) → b ≡ false
    go true y = sym (y refl)
    go false y = refl

none_tail : (h : Bool) (A : Type 0) → OfRank (ends h) (ends_in false nil ≡ false) A
unfolding ends_in
none_tail true A = inl refl
none_tail false A = refl

module _ (h : Bool) (s : State) (ts : List Token) (A : At s ts) (x : Head h s) where
  token_holds : (t : Token) (us : List Token) → t ∷ us ≡ drop_trivia s.rest → Holds (know true (ends h) low) s ts (token t (length us) done) (taken us)
  unfolding place front ◌⊕◌ Quiet ends_in
  token_holds t us e =
      let d : drop_trivia ts ≡ t ∷ us = at_first s ts (t ∷ us) A e in
      let l : suc (length us) ≤ length s.rest = subst (λ (v : List Token). length v ≤ length s.rest) (sym e) (drop_trivia_length s.rest) in
      let q : place (token t (length us) done) ts ≡ lead ts ⊕ leaf (seen t) (t ∷ []) nil = ap (λ (v : List Token). lead ts ⊕ front v ⊕ nil) d in
      record {
        still = λ y. absurd (false≢true y);
        head = λ _. refl;
        tail =
            token_tail h s ts t us l d (ap (ends_in false) q ∙ lead_ends ts (leaf (seen t) (t ∷ []) nil) (λ a b. refl) false)
            (λ y. x (ap (first_in (K.Semicolon ∷ [])) (sym e) ∙ seen_first t us y));
        part = subst Quiet (sym q) (before_quiet ts _ tt);
      }

  none_holds : (u : State) → Holds (know true (ends h) low) s ts done u
  unfolding place Quiet
  none_holds u = record { still = λ y. absurd (false≢true y); head = λ _. refl; tail = none_tail h _; part = tt }

  bump_holds : (us : List Token) → us ≡ drop_trivia s.rest → (u : State) → Holds (know true (ends h) low) s ts (do_bump u us).made (do_bump u us).state
  unfolding do_bump replies makes
  bump_holds [] e u = none_holds u
  bump_holds (t ∷ us) e u = token_holds t us e

  name_holds : (ks : List ℕ) (us : List Token) (u : State) → Holds (know true low low) s ts (do_name ks u us).made (do_name ks u us).state
  unfolding do_name replies makes place ◌⊕◌ ends_in Quiet
  name_holds ks [] u = looks true s u ts done refl (λ _. refl)
  name_holds ks (t ∷ us) u =
      record {
        still = λ y. absurd (false≢true y);
        head = λ _. refl;
        tail = lead_ends ts _ (λ a b. refl) false;
        part = before_quiet ts _ tt;
      }

-- no action shapes a marker
argument_shape : (n : ℕ) (s : State) (ts : List Token) → (do_argument n s ts).shape ≡ 0
unfolding do_argument replies makes add at_depth
argument_shape n s [] = refl
argument_shape n s (t ∷ ts) =
    let Z : Out → Type 0 = λ (o : Out). o.shape ≡ 0 in
    cond-all Z (trivia t) (argument_shape n s ts)
    (cond-all Z (eqb t.kind K.LParen) (argument_shape (suc n) (taken ts) ts)
    (cond-all Z (eqb t.kind K.RParen) (deep n _ _ refl (λ m. argument_shape m (taken ts) ts))
    (cond-all Z (eqb t.kind K.Comma) (deep n _ _ refl (λ m. argument_shape (suc m) (taken ts) ts)) (argument_shape n (taken ts) ts))))
  where
    deep : (n : ℕ) (o : Out) (f : ℕ → Out) → o.shape ≡ 0 → ((m : ℕ) → (f m).shape ≡ 0) → (at_depth n o f).shape ≡ 0
    deep zero o f p q = p
    deep (suc n) o f p q = q n

bump_yes : (P : Post) (d : Known) (s : State) (us : List Token) → P 0 yes d ≡ true → P (do_bump s us).shape (do_bump s us).ans d ≡ true
unfolding do_bump replies makes
bump_yes P d s [] e = e
bump_yes P d s (t ∷ us) e = e

name_yes : (P : Post) (d : Known) (ks : List ℕ) (s : State) (us : List Token) → P 0 yes d ≡ true → P (do_name ks s us).shape (do_name ks s us).ans d ≡ true
unfolding do_name replies makes
name_yes P d ks s [] e = e
name_yes P d ks s (t ∷ us) e = e

-- a question
asked : (P : Post) (s u : State) (ts : List Token) (n y : Known) (x : Bool) → P 0 no n && P 0 yes y ≡ true → (x ≡ false → Holds n s ts done u) → (x ≡ true → Holds y s ts done u)
    → Ends P s ts 0 (truth x) done u
asked P s u ts n y true e p q = record { known = y; post = and_right (P 0 no n) _ e; holds = q refl }
asked P s u ts n y false e p q = record { known = n; post = and_left (P 0 no n) _ e; holds = p refl }

module _ (P : Post) (h : Bool) (s : State) (ts : List Token) (A : At s ts) (x : Head h s) where
  -- a question that moves nothing
  asked_still : (b : Bool) → P 0 no (idle h) && P 0 yes (idle h) ≡ true → Ending P s ts (replies (truth b) s)
  unfolding replies
  asked_still b e = asked P s s ts (idle h) (idle h) b e (λ _. stays h s ts x) (λ _. stays h s ts x)

  emit_ends : (m k : ℕ) (l : Label) → P 0 yes (know h low low) ≡ true → Ending P s ts (do_emit m k l (peeked s))
  unfolding do_emit makes place
  emit_ends m k l e = record { known = know h low low; post = e; holds = looks h s (peeked s) ts _ refl (peek_head h s x) }

  pub act_ends : (b : Label) (a : Act) → act_surely a P h ≡ true → Ending P s ts (perform b a s)
  unfolding act_surely perform replies do_expected makes place
  act_ends b (silent_at ks) e =
      asked P s (peeked s) ts _ _ (first_in ks (peeked s).rest) e
      (λ z. looks _ s (peeked s) ts done refl (λ y. both h _ (peek_head h s x y) (ap not (sym (first_semicolon ks (peeked s).rest (at_peeked y)) ∙ z))))
      (λ z. looks _ s (peeked s) ts done refl (λ y. both h _ (peek_head h s x y) (sym (first_semicolon ks (peeked s).rest (at_peeked y)) ∙ z)))
    where
      at_peeked : first_in (K.Semicolon ∷ []) (drop_trivia (peeked s).rest) ≡ true → first_in (K.Semicolon ∷ []) (peeked s).rest ≡ true
      at_peeked y = unfold peeked in ap (first_in (K.Semicolon ∷ [])) (sym (drop_twice s.rest)) ∙ y
  act_ends b at_end e =
      asked P s (peeked s) ts _ _ (ended (peeked s).rest) e
      (λ z. looks _ s (peeked s) ts done refl (peek_head h s x))
      (λ z. looks _ s (peeked s) ts done refl (λ y. ended_none (drop_trivia (peeked s).rest) (unfold peeked in ap ended (drop_twice s.rest) ∙ z) y))
  act_ends b (immediate k) e = asked_still (first_in (k ∷ []) s.rest) e
  act_ends b (immediate_next k) e = asked_still (first_in (k ∷ []) (past s.rest)) e
  act_ends b (add_expected k) e = record { known = know h low low; post = e; holds = looks h s _ ts done refl x }
  act_ends b bump e = record { known = know true (ends h) low; post = bump_yes P _ (peeked s) (peeked s).rest e; holds = bump_holds h s ts A x (peeked s).rest (unfold peeked in refl) (peeked s) }
  act_ends b (bump_name ks) e = record { known = know true low low; post = name_yes P _ ks (peeked s) (peeked s).rest e; holds = name_holds h s ts A x ks (peeked s).rest (peeked s) }
  act_ends b bump_argument e =
      let o : Out = do_argument 0 s s.rest in
      record {
        known = know true high high;
        post = ap (λ (k : ℕ). P k o.ans (know true high high)) (argument_shape 0 s s.rest) ∙ any_of (λ z. P 0 z (know true high high)) e o.ans;
        holds = unknown s o.state ts o.made;
      }
  act_ends b (emit m k) e = emit_ends m k no_label e
  act_ends b emit_unclosed e = emit_ends E.unclosed_node E.no_hint b e
  act_ends b (less m n) e = asked_still (ltb m n) e
