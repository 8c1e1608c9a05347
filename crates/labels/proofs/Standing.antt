-- Places among the tokens of a file, by what is left of them, and the reports written so far.
use Rattle.std.proofs.Common.{ℕ, zero, suc, ◌+◌, ◌-◌, ◌≤◌, ◌<◌, arith, mod-eq_of_lt, ◌≡◌, refl, ap, sym, ◌∙◌, Bool, true, false, cond, List, [], ◌∷◌, ◌++◌, append_assoc, eqb, length, drop, length-append, take, take-append-drop, drop_at, Ok, Err}
use Rattle.basics.specs.Word.{low}
use Rattle.basics.proofs.Tests.{eqb_swap, cond-all}
use Rattle.definitions.specs.Layout.{TWO_TO_32}
use Rattle.definitions.specs.TokenKind as K
use Rattle.definitions.specs.Token.{Token, seen, one_of, first_in, trivia, drop_trivia, past, byte_count}
use Rattle.definitions.specs.Skeleton.{Skeleton, done, token, name, node, ignored, report, over}
use Rattle.definitions.specs.Place.{after}
use Rattle.laws.proofs.Skeleton.{bytes_append}
use Rattle.laws.proofs.Trivia.{drop_twice}
use Rattle.laws.proofs.NamesFound.{Back, first_curly}
use Rattle.token_rows.specs.declared.token.Seat.{Seat}
use Rattle.labels.specs.Model.{breaks, next_seat, passed, past_solid, first_solid, solid_after, Names, Out, out, reported}
use Rattle.labels.proofs.Taken.{Firsts}

-- ---------------------------------------------------------------- lists of tokens

pub curly_first : (ts : List Token) → first_in (K.LCurly ∷ []) ts ≡ first_curly ts
unfolding first_in one_of
curly_first [] = refl
curly_first (t ∷ ts) = go (eqb K.LCurly (seen t)) ∙ eqb_swap K.LCurly (seen t)
  where
    go : (b : Bool) → cond b true false ≡ b
    go true = refl
    go false = refl

pub past_drop : (ts : List Token) → drop 1 ts ≡ past ts
past_drop [] = refl
past_drop (t ∷ ts) = refl

-- what is left after n that are not trivia
unfoldable pub beyond : ℕ → List Token → List Token
unfolding trivia
beyond zero ts = ts
beyond (suc n) [] = []
beyond (suc n) (t ∷ ts) = cond (trivia t) (beyond (suc n) ts) (beyond n ts)

beyond_none : (n : ℕ) → beyond n [] ≡ []
unfolding beyond
beyond_none zero = refl
beyond_none (suc n) = refl

beyond_add : (n m : ℕ) (ts : List Token) → beyond (n + m) ts ≡ beyond m (beyond n ts)
unfolding beyond
beyond_add zero m ts = let e : zero + m ≡ m = omega arith in ap (λ k. beyond k ts) e
beyond_add (suc n) m [] = beyond_none (suc n + m) ∙ sym (beyond_none m)
beyond_add (suc n) m (t ∷ ts) =
    let e : suc n + m ≡ suc (n + m) = omega arith in
    ap (λ k. beyond k (t ∷ ts)) e ∙ go (trivia t) (ap (λ k. beyond k ts) (sym e) ∙ beyond_add (suc n) m ts) (beyond_add n m ts)
  where
    go : (b : Bool) → beyond (suc (n + m)) ts ≡ beyond m (beyond (suc n) ts) → beyond (n + m) ts ≡ beyond m (beyond n ts)
        → cond b (beyond (suc (n + m)) ts) (beyond (n + m) ts) ≡ beyond m (cond b (beyond (suc n) ts) (beyond n ts))
    go true p q = p
    go false p q = q

-- trivia that stand first change nothing
beyond_solid : (n : ℕ) (ts : List Token) → drop_trivia (beyond n ts) ≡ drop_trivia (beyond n (drop_trivia ts))
unfolding beyond drop_trivia
beyond_solid zero ts = sym (drop_twice ts)
beyond_solid (suc n) [] = refl
beyond_solid (suc n) (t ∷ ts) = go (trivia t) refl (beyond_solid (suc n) ts)
  where
    go : (b : Bool) → trivia t ≡ b → drop_trivia (beyond (suc n) ts) ≡ drop_trivia (beyond (suc n) (drop_trivia ts))
        → drop_trivia (cond b (beyond (suc n) ts) (beyond n ts)) ≡ drop_trivia (beyond (suc n) (cond b (drop_trivia ts) (t ∷ ts)))
    go true e p = p
    go false e p = ap (λ (c : Bool). drop_trivia (cond c (beyond (suc n) ts) (beyond n ts))) (sym e)

-- from where some are behind
pub beyond_more : (b n : ℕ) (from ts : List Token) → drop_trivia (beyond b from) ≡ drop_trivia ts → drop_trivia (beyond (b + n) from) ≡ drop_trivia (beyond n (drop_trivia ts))
beyond_more b n from ts e =
    ap drop_trivia (beyond_add b n from) ∙ beyond_solid n (beyond b from) ∙ ap (λ (l : List Token). drop_trivia (beyond n l)) e

pub beyond_firsts : (n : ℕ) (ts : List Token) → Firsts n ts → beyond n ts ≡ drop n ts
unfolding beyond Firsts
beyond_firsts zero ts h = refl
beyond_firsts (suc n) [] h = absurd h
beyond_firsts (suc n) (t ∷ ts) h = ap (λ (b : Bool). cond b (beyond (suc n) ts) (beyond n ts)) h.0 ∙ beyond_firsts n ts h.1

pub firsts_length : (n : ℕ) (ts : List Token) → Firsts n ts → length ts ≡ n + length (drop n ts)
unfolding Firsts
firsts_length zero ts h = omega arith
firsts_length (suc n) [] h = absurd h
firsts_length (suc n) (t ∷ ts) h = let e : length ts ≡ n + length (drop n ts) = firsts_length n ts h.1 in omega arith

pub solid_shorter : (ts : List Token) → length (drop_trivia ts) ≤ length ts
unfolding drop_trivia
solid_shorter [] = omega arith
solid_shorter (t ∷ ts) = let h : length (drop_trivia ts) ≤ length ts = solid_shorter ts in
    cond-all (λ (l : List Token). length l ≤ suc (length ts)) (trivia t) {x = drop_trivia ts} {y = t ∷ ts} (omega arith) (omega arith)

-- ---------------------------------------------------------------- reports, and a file

-- how many numbers are written
abbrev pub count : Names → ℕ
count (Ok written) = written
count (Err e) = e.written

-- what has become of them, with the buffer
pub record Rep : Type 0 where
  pub names : Names
  pub reports : List ℕ

abbrev pub held : Rep → Out
held r = out r.names r.reports

abbrev pub rep : Out → Rep
rep (out s reports) = record { names = s; reports = reports }

held_rep : (x : Out) → x ≡ held (rep x)
held_rep (out s reports) = refl

pub record File : Type 0 where
  pub bytes : List ℕ
  pub all : List Token
  pub few : byte_count all < TWO_TO_32
  pub many : length all < TWO_TO_32
  -- how many expectations were written before
  pub first : ℕ

module _ (F : File) where
  abbrev bytes : List ℕ
  bytes = F.bytes

  abbrev all : List Token
  all = F.all

  abbrev first : ℕ
  first = F.first

  few : byte_count all < TWO_TO_32
  few = F.few

  -- what is left of its tokens at some place
  pub record Part (ts : List Token) : Type 0 where
    pub before : List Token
    pub split : before ++ ts ≡ all

  pub part_tokens : (ts : List Token) → Part ts → length ts ≤ length all
  part_tokens ts h = let q : length all ≡ length h.before + length ts = ap length (sym h.split) ∙ length-append h.before ts in omega arith

  part_bytes : (ts : List Token) → Part ts → byte_count ts ≤ byte_count all
  part_bytes ts h = let q : byte_count all ≡ byte_count h.before + byte_count ts = ap byte_count (sym h.split) ∙ bytes_append h.before ts in omega arith

  part_next : (t : Token) (ts : List Token) → Part (t ∷ ts) → Part ts
  part_next t ts h = record { before = h.before ++ (t ∷ []); split = append_assoc h.before (t ∷ []) ts ∙ h.split }

  pub part_drop : (n : ℕ) (ts : List Token) → Part ts → Part (drop n ts)
  part_drop n ts h =
      record { before = h.before ++ take n ts; split = append_assoc h.before (take n ts) (drop n ts) ∙ ap (h.before ++◌) (take-append-drop n ts) ∙ h.split }

  pub part_past : (ts : List Token) → Part ts → Part (past ts)
  part_past [] h = h
  part_past (t ∷ ts) h = part_next t ts h

  pub part_solid : (ts : List Token) → Part ts → Part (drop_trivia ts)
  unfolding drop_trivia
  part_solid [] h = h
  part_solid (t ∷ ts) h = cond-all Part (trivia t) {x = drop_trivia ts} {y = t ∷ ts} (part_solid ts (part_next t ts h)) h

  pub part_after : (o : Skeleton) (ts : List Token) → Part ts → Part (after o ts)
  unfolding after
  part_after done ts h = h
  part_after (token t m o) ts h = part_after o _ (part_past _ (part_solid ts h))
  part_after (name raw m o) ts h = part_after o _ (part_drop (length raw) _ (part_solid ts h))
  part_after (node k m m' a i o) ts h = part_after o _ (part_after i _ (part_after a _ (part_solid ts h)))
  part_after (ignored m m' a i o) ts h = part_after o _ (part_after i _ (part_after a ts h))
  part_after (report r o) ts h = part_after o ts h
  part_after (over m o) ts h = part_after o ts h

  abbrev pub seated : List Token → Seat
  seated ts = record { at = length all - length ts; byte = byte_count all - byte_count ts }

  pub seat_there : (ts : List Token) → Part ts → drop (length all - length ts) all ≡ ts
  seat_there ts h =
      let q : length all ≡ length h.before + length ts = ap length (sym h.split) ∙ length-append h.before ts in
      let n : length h.before ≡ length all - length ts = omega arith in
      ap (drop (length all - length ts)) (sym h.split) ∙ drop_at h.before ts (length all - length ts) n

  seat_next : (t : Token) (ts : List Token) → Part (t ∷ ts) → next_seat t (seated (t ∷ ts)) ≡ seated ts
  unfolding byte_count
  seat_next t ts h =
      let n : suc (length ts) ≤ length all = part_tokens (t ∷ ts) h in
      let m : t.len + byte_count ts ≤ byte_count all = part_bytes (t ∷ ts) h in
      let p : length all - suc (length ts) + 1 ≡ length all - length ts = omega arith in
      let q : byte_count all - (t.len + byte_count ts) + t.len ≡ byte_count all - byte_count ts = omega arith in
      let s : low (byte_count all - (t.len + byte_count ts) + t.len) ≡ byte_count all - byte_count ts = ap low q ∙ mod-eq_of_lt (omega (arith, few)) in
      rw (p, s) refl

  pub passed_seat : (n : ℕ) (ts : List Token) → Part ts → passed n ts (seated ts) ≡ seated (drop n ts)
  unfolding passed
  passed_seat zero ts h = refl
  passed_seat (suc n) [] h = refl
  passed_seat (suc n) (t ∷ ts) h = ap (passed n ts) (seat_next t ts h) ∙ passed_seat n ts (part_next t ts h)

  solid_seat : (ts : List Token) → Part ts → first_solid ts (seated ts) ≡ seated (drop_trivia ts)
  unfolding first_solid drop_trivia
  solid_seat [] h = refl
  solid_seat (t ∷ ts) h = go (trivia t) (ap (first_solid ts) (seat_next t ts h) ∙ solid_seat ts (part_next t ts h))
    where
      go : (b : Bool) → first_solid ts (next_seat t (seated (t ∷ ts))) ≡ seated (drop_trivia ts)
          → cond b (first_solid ts (next_seat t (seated (t ∷ ts)))) (seated (t ∷ ts)) ≡ seated (cond b (drop_trivia ts) (t ∷ ts))
      go true e = e
      go false e = refl

  beyond_seat : (n : ℕ) (ts : List Token) → Part ts → past_solid n ts (seated ts) ≡ seated (beyond n ts)
  unfolding past_solid beyond
  beyond_seat zero ts h = refl
  beyond_seat (suc n) [] h = refl
  beyond_seat (suc n) (t ∷ ts) h =
      let g : Part ts = part_next t ts h in
      go (trivia t) (ap (past_solid (suc n) ts) (seat_next t ts h) ∙ beyond_seat (suc n) ts g) (ap (past_solid n ts) (seat_next t ts h) ∙ beyond_seat n ts g)
    where
      go : (b : Bool) → past_solid (suc n) ts (next_seat t (seated (t ∷ ts))) ≡ seated (beyond (suc n) ts) → past_solid n ts (next_seat t (seated (t ∷ ts))) ≡ seated (beyond n ts)
          → cond b (past_solid (suc n) ts (next_seat t (seated (t ∷ ts)))) (past_solid n ts (next_seat t (seated (t ∷ ts)))) ≡ seated (cond b (beyond (suc n) ts) (beyond n ts))
      go true p q = p
      go false p q = q

  part_beyond : (n : ℕ) (ts : List Token) → Part ts → Part (beyond n ts)
  unfolding beyond
  part_beyond zero ts h = h
  part_beyond (suc n) [] h = h
  part_beyond (suc n) (t ∷ ts) h =
      cond-all Part (trivia t) {x = beyond (suc n) ts} {y = beyond n ts} (part_beyond (suc n) ts (part_next t ts h)) (part_beyond n ts (part_next t ts h))

  pub solid_there : (n : ℕ) (ts : List Token) → Part ts → solid_after n all (seated ts) ≡ seated (drop_trivia (beyond n ts))
  unfolding solid_after
  solid_there n ts h =
      let g : Part (beyond n ts) = part_beyond n ts h in
      rw (seat_there ts h, beyond_seat n ts h, seat_there (beyond n ts) g) (solid_seat (beyond n ts) g)

  -- ---------------------------------------------------------------- reports

  unfoldable pub pushed : ℕ → ℕ → ℕ → Rep → Rep
  unfolding reported
  pushed start end at r = rep (reported start end at first (held r))

  unfoldable pub emit : Back → Rep → Rep
  unfolding pushed breaks
  emit x r =
      let start = byte_count all - x.bytes_left in
      let end = byte_count all - x.bytes_after in
      cond (breaks bytes start end) (pushed start end (length all - x.tokens_left) r) r

  unfoldable pub emits : List Back → Rep → Rep
  unfolding emit
  emits [] r = r
  emits (x ∷ l) r = emits l (emit x r)

  pub emits_append : (l m : List Back) (r : Rep) → emits (l ++ m) r ≡ emits m (emits l r)
  unfolding emits
  emits_append [] m r = refl
  emits_append (x ∷ l) m r = emits_append l m (emit x r)

  pub reported_held : (r : Rep) (start end at : ℕ) → reported start end at first (held r) ≡ held (pushed start end at r)
  unfolding pushed
  reported_held r start end at = held_rep (reported start end at first (held r))
