-- What the analysis speaks of, said of runs: a run from the state s makes p, placed from the raw tokens ts on, and
-- comes to u.
use Prim.Native.Nat.{ℕ, ◌≤◌, ◌<◌}
use native.Mathlib.Omega.{arith}
use mathlib.Core.Logic.{◌⊎◌, inl, inr}
use mathlib.Core.Path.{◌≡◌, refl, ap, sym, ◌∙◌, subst}
use mathlib.Core.Bool.{Bool, true, false, cond, ◌&&◌, false≢true}
use mathlib.Core.List.{List, [], ◌∷◌}
use lib.Dec.{eqb}
use lib.ListN.{length}
use Rattle.definitions.specs.TokenKind as K
use Rattle.definitions.specs.Token.{Token, drop_trivia, first_in}
use Rattle.definitions.specs.Prog.{Ans}
use Rattle.definitions.specs.Skeleton.{Skeleton, done, ◌⧺◌}
use Rattle.definitions.specs.Run.{State, mark_of, taken}
use Rattle.definitions.specs.Place.{Tree, nil, leaf, subtree, ◌⊕◌, after, place}
use Rattle.basics.proofs.Tests.{and_left, and_right}
use Rattle.laws.proofs.Skeleton.{join_done, after_join}
use Rattle.laws.proofs.Tree.{beside_assoc, place_join}
use Rattle.laws.proofs.Marks.{stands_within}
use Rattle.recovery.specs.Recovery.{is_statement}
use Rattle.recovery.proofs.Analysis.{Rank, low, mid, high, Known, know, ◌▷ʳ◌, ◌▷◌, le_rank, le_bool, fits, Post}
use Rattle.recovery.proofs.Told.{All, told, told_all, Above, falls_above}
use Rattle.recovery.proofs.Going.{Goes}

-- ---------------------------------------------------------------- trees

-- whether the last of some trees is a semicolon's leaf; b: whether what stands before them is
unfoldable pub ends_in : Bool → Tree → Bool
ends_in b nil = b
ends_in b (leaf k us f) = ends_in (eqb k K.Semicolon) f
ends_in b (subtree k c f) = ends_in false f

-- a statement whose own last leaf is a semicolon
abbrev pub closes : ℕ → Tree → Bool
closes k c = is_statement k && ends_in false c

-- there is none among some parts
unfoldable pub Quiet : Tree → Type 0
unfolding ends_in is_statement
Quiet nil = Unit {0}
Quiet (leaf k us f) = Quiet f
Quiet (subtree k c f) = (closes k c ≡ false) × Quiet f

-- only the last of some parts may be one
pub record Last (f : Tree) : Type 0 where
  pub others : Tree
  pub kind : ℕ
  pub inner : Tree
  pub is : f ≡ others ⊕ subtree kind inner nil
  pub quiet : Quiet others

pub ends_beside : (b : Bool) (f g : Tree) → ends_in b (f ⊕ g) ≡ ends_in (ends_in b f) g
unfolding ends_in ◌⊕◌
ends_beside b nil g = refl
ends_beside b (leaf k us f) g = ends_beside (eqb k K.Semicolon) f g
ends_beside b (subtree k c f) g = ends_beside false f g

pub quiet_beside : (f g : Tree) → Quiet f → Quiet g → Quiet (f ⊕ g)
unfolding Quiet ◌⊕◌
quiet_beside nil g p q = q
quiet_beside (leaf k us f) g p q = quiet_beside f g p q
quiet_beside (subtree k c f) g p q = (p.0, quiet_beside f g p.1 q)

-- ---------------------------------------------------------------- what is known of a run

-- the run stands right after the last token that it took: nothing is pending, nothing was passed over or reported
-- since, and placing goes on there too
pub record Sealed (s : State) (ts : List Token) (p : Skeleton) (u : State) : Type 0 where
  pub rest : List Token
  pub is : u ≡ taken rest
  pub less : length rest < length s.rest
  pub above : All (Above (length rest)) (told p)
  pub exact : after p ts ≡ rest

-- what a rank says: low, A; mid, A or B; high, nothing
abbrev pub OfRank : Rank → Type 0 → Type 0 → Type 0
OfRank low A B = A
OfRank mid A B = A ⊎ B
OfRank high A B = Unit {0}

-- the current token is a semicolon only if h says that it may be
abbrev pub Head : Bool → State → Type 0
Head h u = first_in (K.Semicolon ∷ []) (drop_trivia u.rest) ≡ true → h ≡ true

pub record Holds (d : Known) (s : State) (ts : List Token) (p : Skeleton) (u : State) : Type 0 where
  pub still : d.still ≡ true → (p ≡ done) × (u ≡ s)
  pub head : Head d.head u
  pub tail : OfRank d.tail (ends_in false (place p ts) ≡ false) (Sealed s ts p u)
  pub part : OfRank d.part (Quiet (place p ts)) (Last (place p ts) × Sealed s ts p u)

-- a run that P is known to hold of
pub record Ends (P : Post) (s : State) (ts : List Token) (k : ℕ) (a : Ans) (p : Skeleton) (u : State) : Type 0 where
  pub known : Known
  pub post : P k a known ≡ true
  pub holds : Holds known s ts p u

-- ---------------------------------------------------------------- ranks

rank_weak : (x y : Rank) (A B : Type 0) → le_rank x y ≡ true → OfRank x A B → OfRank y A B
rank_weak low low A B e h = h
rank_weak low mid A B e h = inl h
rank_weak low high A B e h = tt
rank_weak mid low A B e h = absurd (false≢true e)
rank_weak mid mid A B e h = h
rank_weak mid high A B e h = tt
rank_weak high low A B e h = absurd (false≢true e)
rank_weak high mid A B e h = absurd (false≢true e)
rank_weak high high A B e h = tt

pub rank_map : {A B A' B' : Type 0} (x : Rank) → (A → A') → (B → B') → OfRank x A B → OfRank x A' B'
rank_map low f g h = f h
rank_map mid f g (inl h) = inl (f h)
rank_map mid f g (inr h) = inr (g h)
rank_map high f g h = tt

rank_then : {A A' B' A'' B'' : Type 0} (x y : Rank) (B : Type 0) → (A → A' → A'') → (A → B' → B'') → OfRank x A B → OfRank y A' B' → OfRank (x ▷ʳ y) A'' B''
rank_then low low B f g h k = f h k
rank_then low mid B f g h (inl k) = inl (f h k)
rank_then low mid B f g h (inr k) = inr (g h k)
rank_then low high B f g h k = tt
rank_then mid y B f g h k = tt
rank_then high y B f g h k = tt

-- ---------------------------------------------------------------- less is known

le_bool_holds : (a b : Bool) → le_bool a b ≡ true → a ≡ true → b ≡ true
le_bool_holds true b e p = e
le_bool_holds false b e p = absurd (false≢true p)

pub weaken : (d e : Known) (s : State) (ts : List Token) (p : Skeleton) (u : State) → fits d e ≡ true → Holds d s ts p u → Holds e s ts p u
weaken d e s ts p u x A =
    let y = and_right (le_bool e.still d.still) _ x in
    let z = and_right (le_bool d.head e.head) _ y in
    record {
      still = λ q. A.still (le_bool_holds e.still d.still (and_left (le_bool e.still d.still) _ x) q);
      head = λ q. le_bool_holds d.head e.head (and_left (le_bool d.head e.head) _ y) (A.head q);
      tail = rank_weak d.tail e.tail _ _ (and_left (le_rank d.tail e.tail) _ z) A.tail;
      part = rank_weak d.part e.part _ _ (and_right (le_rank d.tail e.tail) _ z) A.part;
    }

-- ---------------------------------------------------------------- one after the other

module _ (s u v : State) (ts : List Token) (p q : Skeleton) (g : Goes s p u) where
  placed : place (p ⧺ q) ts ≡ place p ts ⊕ place q (after p ts)
  placed = place_join p q ts

  ends_join : ends_in false (place p ts) ≡ false → ends_in false (place (p ⧺ q) ts) ≡ ends_in false (place q (after p ts))
  ends_join e = ap (ends_in false) placed ∙ ends_beside false (place p ts) (place q (after p ts)) ∙ ap (λ (b : Bool). ends_in b (place q (after p ts))) e

  sealed_then : Sealed u (after p ts) q v → Sealed s ts (p ⧺ q) v
  sealed_then S =
      let w : length u.rest ≤ mark_of u = stands_within u g.stands in
      let x : length u.rest ≤ length s.rest = g.onward.rest in
      let y : length S.rest < length u.rest = S.less in
      record {
        rest = S.rest;
        is = S.is;
        less = omega arith;
        above = told_all (Above (length S.rest)) p q (falls_above _ (mark_of s) (mark_of u) p (omega arith) g.down.falls) S.above;
        exact = after_join p q ts ∙ S.exact;
      }

  last_then : Quiet (place p ts) → Last (place q (after p ts)) → Last (place (p ⧺ q) ts)
  last_then h l =
      record {
        others = place p ts ⊕ l.others;
        kind = l.kind;
        inner = l.inner;
        is = placed ∙ ap (place p ts ⊕◌) l.is ∙ sym (beside_assoc (place p ts) l.others _);
        quiet = quiet_beside (place p ts) l.others h l.quiet;
      }

  quiet_then : Quiet (place p ts) → Quiet (place q (after p ts)) → Quiet (place (p ⧺ q) ts)
  quiet_then h k = subst Quiet (sym placed) (quiet_beside (place p ts) (place q (after p ts)) h k)

  pub holds_then : (d e : Known) → Holds d s ts p u → Holds e u (after p ts) q v → Holds (d ▷ e) s ts (p ⧺ q) v
  holds_then d e A B = go e.still refl
    where
      go : (b : Bool) → e.still ≡ b → Holds (cond b d (know e.head (d.tail ▷ʳ e.tail) (d.part ▷ʳ e.part))) s ts (p ⧺ q) v
      go true x = subst (λ (w : State). Holds d s ts (p ⧺ q) w) (sym (B.still x).1) (subst (λ (r : Skeleton). Holds d s ts (p ⧺ r) u) (sym (B.still x).0) (subst (λ (r : Skeleton). Holds d s ts r u) (sym (join_done p)) A))
      go false x =
          record {
            still = λ y. absurd (false≢true y);
            head = B.head;
            tail = rank_then d.tail e.tail _ (λ h k. ends_join h ∙ k) (λ _ k. sealed_then k) A.tail B.tail;
            part = rank_then d.part e.part _ quiet_then (λ h k. (last_then h k.0, sealed_then k.1)) A.part B.part;
          }
