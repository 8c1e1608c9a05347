-- What is known inside a marker, and what is known of the marker when it is closed.
use Prim.Native.Nat.{ℕ, zero, suc}
use mathlib.Core.Path.{◌≡◌, refl, ap, sym, ◌∙◌, subst}
use mathlib.Core.Bool.{Bool, true, false, cond, not, ◌&&◌, false≢true}
use mathlib.Core.List.{List}
use Rattle.definitions.specs.Token.{Token, drop_trivia}
use Rattle.definitions.specs.Skeleton.{Skeleton, done, node, ignored}
use Rattle.definitions.specs.Run.{State, closed}
use Rattle.definitions.specs.Place.{nil, subtree, ◌⊕◌, lead, after, place}
use Rattle.definitions.specs.Report.{pushes, reports}
use Rattle.laws.proofs.Tree.{beside_nil}
use Rattle.recovery.specs.Recovery.{is_statement}
use Rattle.recovery.proofs.Analysis.{Rank, low, Known, know, around, plain_kind}
use Rattle.recovery.proofs.Told.{Above, told_closed, All}
use Rattle.recovery.proofs.Meaning.{ends_in, closes, Quiet, Last, Sealed, Holds, OfRank, rank_map}
use Rattle.recovery.proofs.Actions.{lead_ends, lead_quiet, before_quiet}

module _ (s u : State) (m m' : ℕ) (g : Skeleton) where
  ignored_placed : (ts : List Token) → place (ignored m m' done g done) ts ≡ place g ts
  unfolding place after ◌⊕◌
  ignored_placed ts = beside_nil (place g ts)

  ignored_sealed : (ts : List Token) → Sealed s ts g u → Sealed s ts (ignored m m' done g done) u
  unfolding closed pushes reports after
  ignored_sealed ts S = record { rest = S.rest; is = S.is; less = S.less; above = subst (All (Above _)) (sym (told_closed 0 m m' done g)) S.above; exact = S.exact }

  node_placed : (k : ℕ) (ts : List Token) → place (node k m m' done g done) ts ≡ lead ts ⊕ subtree k (place g (drop_trivia ts)) nil
  unfolding place after ◌⊕◌
  node_placed k ts = refl

  node_sealed : (k : ℕ) (ts : List Token) → Sealed s (drop_trivia ts) g u → Sealed s ts (node (suc k) m m' done g done) u
  unfolding closed pushes reports after
  node_sealed k ts S = record { rest = S.rest; is = S.is; less = S.less; above = subst (All (Above _)) (sym (told_closed (suc k) m m' done g)) S.above; exact = S.exact }

  node_ends : (k : ℕ) (ts : List Token) → ends_in false (place (node k m m' done g done) ts) ≡ false
  unfolding ends_in
  node_ends k ts = ap (ends_in false) (node_placed k ts) ∙ lead_ends ts (subtree k (place g (drop_trivia ts)) nil) (λ a b. refl) false

  node_quiet : (k : ℕ) (ts : List Token) → closes k (place g (drop_trivia ts)) ≡ false → Quiet (place (node k m m' done g done) ts)
  unfolding Quiet
  node_quiet k ts e = subst Quiet (sym (node_placed k ts)) (before_quiet ts _ (e, tt))

  node_last : (k : ℕ) (ts : List Token) → Last (place (node k m m' done g done) ts)
  node_last k ts = record { others = lead ts; kind = k; inner = place g (drop_trivia ts); is = node_placed k ts; quiet = lead_quiet ts }

  statement : (k : ℕ) (ts : List Token) → is_statement k ≡ true → closes k (place g (drop_trivia ts)) ≡ ends_in false (place g (drop_trivia ts))
  statement k ts e = ap (◌&& ends_in false (place g (drop_trivia ts))) e

  node_part : (k : ℕ) (ts : List Token) (b : Bool) (x : Rank) → is_statement (suc k) ≡ b
      → OfRank x (ends_in false (place g (drop_trivia ts)) ≡ false) (Sealed s (drop_trivia ts) g u)
      → OfRank (cond b x low) (Quiet (place (node (suc k) m m' done g done) ts)) (Last (place (node (suc k) m m' done g done) ts) × Sealed s ts (node (suc k) m m' done g done) u)
  node_part k ts false x e h = node_quiet (suc k) ts (ap (◌&& ends_in false (place g (drop_trivia ts))) e)
  node_part k ts true x e h = rank_map x (λ q. node_quiet (suc k) ts (statement (suc k) ts e ∙ q)) (λ S. (node_last (suc k) ts, node_sealed k ts S)) h

  pub ignored_holds : (ts : List Token) (e : Known) → Holds e s ts g u → Holds (around 0 e) s ts (closed 0 m m' done g) u
  unfolding closed
  ignored_holds ts e A =
      record {
        still = λ y. absurd (false≢true y);
        head = A.head;
        tail = rank_map e.tail (λ q. ap (ends_in false) (ignored_placed ts) ∙ q) (ignored_sealed ts) A.tail;
        part = rank_map e.part (λ q. subst Quiet (sym (ignored_placed ts)) q) (λ q. (subst Last (sym (ignored_placed ts)) q.0, ignored_sealed ts q.1)) A.part;
      }

  pub node_holds : (k : ℕ) (ts : List Token) (e : Known) → Holds e s (drop_trivia ts) g u → Holds (around (suc k) e) s ts (closed (suc k) m m' done g) u
  unfolding closed
  node_holds k ts e A = record { still = λ y. absurd (false≢true y); head = A.head; tail = node_ends (suc k) ts; part = node_part k ts (is_statement (suc k)) e.tail refl A.tail }

  pub dull_holds : (k : ℕ) (ts : List Token) → plain_kind k ≡ true → Holds (know true low low) s ts (closed k m m' done g) u
  unfolding closed
  dull_holds zero ts e = absurd (false≢true e)
  dull_holds (suc k) ts e =
      record {
        still = λ y. absurd (false≢true y);
        head = λ _. refl;
        tail = node_ends (suc k) ts;
        part = node_quiet (suc k) ts (go (is_statement (suc k)) e);
      }
    where
      go : (b : Bool) → not b ≡ true → b && ends_in false (place g (drop_trivia ts)) ≡ false
      go true x = absurd (false≢true x)
      go false x = refl
