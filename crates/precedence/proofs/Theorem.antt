-- C's table: the statements of specs/Precedence.antt, proved.
use Prim.Native.Nat.{ℕ, suc, ◌+◌, ◌*◌, ◌-◌, ◌≤◌, ◌<◌}
use native.Mathlib.Nat.{div-eq_of_eq-mul_right}
use native.Mathlib.Omega.{arith}
use mathlib.Core.Path.{◌≡◌, refl, sym, ◌∙◌, ap, subst}
use mathlib.Core.Logic.{◌⊎◌, inl, inr, ⊎_elim}
use mathlib.Core.Bool.{Bool, true, false, cond}
use mathlib.Core.List.{List, [], ◌∷◌, ◌++◌, append-nil, append_assoc}
use lib.Dec.{leb, ltb}
use borrow.Author.Tests.{ltb-true, ltb-false}
use lib.ListN.{length, take, drop, replicate, length-append, length-drop}
use lib.Seq.{drop-drop, drop-append_seam}
use Rattle.definitions.specs.LexError as L
use Rattle.definitions.specs.Layout.{TREE_ROW}
use Rattle.definitions.specs.TokenKind as K
use Rattle.definitions.specs.NodeKind as N
use Rattle.definitions.specs.Token.{Token, tokens_of, is_error, seen, byte_count}
use Rattle.definitions.specs.Grammar.{Entry, root_kind}
use Rattle.definitions.specs.Skeleton.{Report, ◌⧺◌}
use Rattle.definitions.specs.Place.{Tree, nil, subtree, ◌⊕◌, lead, after, place, root, row_count}
use Rattle.definitions.specs.Parent.{rows, rows_under}
use Rattle.definitions.specs.Report.{Push, pushes, reports, report_numbers, pool}
use Rattle.definitions.specs.Strict.{NameAt, judged, name_numbers}
use Rattle.definitions.specs.C.{symbols, Expr}
use Rattle.definitions.specs.Call.{Buffers, Result, sheets, kept, run_entry, names_of, call}
use Rattle.laws.proofs.Scan.{fits_clear}
use Rattle.laws.proofs.Tree.{leaves}
use Rattle.laws.proofs.Decode.{rows_length}
use Rattle.laws.proofs.Lossless.{lossless}
use Rattle.laws.proofs.Accepted.{accepted_call}
use Rattle.precedence.specs.Nodes.{one, expr_nodes, cell}
use Rattle.precedence.specs.Precedence.{tokens_before, mark_in, DtExprAt, StartsCell, Brackets, opening_index, closing_index, Between, HoldsTree, Judged, CTable, OneTree}
use Rattle.precedence.proofs.Bare.{unique}
use Rattle.laws.specs.Pushes.{NoneExceeded}
use Rattle.precedence.proofs.Pushed.{Reported}
use Rattle.precedence.proofs.Symbols.{bracket_solid}
use Rattle.precedence.proofs.Partner.{Partner, HeardInside}
use Rattle.precedence.proofs.Settle.{Clean, Faulty, Settled, each_both}
use Rattle.precedence.proofs.Placed.{entry_settled}
use Rattle.precedence.proofs.JudgedNames.{Among, Apart, reported_apart}
use Rattle.precedence.proofs.Unjudged.{none_judged, bare_between, bare_expr}
use Rattle.precedence.proofs.ReportRows.{nth_less, nth_there, reported_nth, nth_reported, nth_mark, mark_past, name_mark}
use Rattle.precedence.proofs.TreeRows.{Found, find}
use Rattle.laws.proofs.ReportNumbers.{report_numbers_length, name_numbers_length}

-- ---------------------------------------------------------------- tokens by kind

seen_by : (k j : ℕ) (b : Bool) → leb L.UnexpectedEndIncbin k ≡ b → cond b K.Unrecognized k ≡ j → (j ≡ K.Unrecognized → ⊥) → k ≡ j
seen_by k j true e h d = absurd (d (sym h))
seen_by k j false e h d = h

pub kind_of : (t : Token) (j : ℕ) → seen t ≡ j → (j ≡ K.Unrecognized → ⊥) → t.kind ≡ j
unfolding seen is_error
kind_of t j h d = seen_by t.kind j (leb L.UnexpectedEndIncbin t.kind) refl h d

seen_of : (t : Token) (j : ℕ) → t.kind ≡ j → leb L.UnexpectedEndIncbin j ≡ false → seen t ≡ j
unfolding seen is_error
seen_of t j e f = rw e (rw f refl)

-- ---------------------------------------------------------------- a bracket and its partner

-- report row q has its mark above the LParen's token index k, and at most the index just past the last of the tokens in
-- c
pub record Tells (r : Result) (k : ℕ) (c : Tree) (q : ℕ) : Type 0 where
  pub written : q < r.answer.report_count
  pub above : k < mark_in q r.buffers.reports
  pub at_most : mark_in q r.buffers.reports ≤ k + length (leaves c)

-- the LParen of the DtExpr in row p: an RParen balances it, or some report tells that none does
pub record Answered (ts : List Token) (p : ℕ) (r : Result) : Type 0 where
  pub bracket : Token
  pub beyond : List Token
  pub starts : drop (tokens_before p r.buffers.trees) ts ≡ bracket ∷ beyond
  pub is_bracket : seen bracket ≡ K.LParen
  pub children : Tree
  pub parent : ℕ
  pub more : List ℕ
  pub rows_are : drop (TREE_ROW * p) r.buffers.trees ≡ rows_under parent p (subtree N.DtExpr children nil) ++ more
  pub paired : Partner beyond ⊎ ((q : ℕ) × Tells r (tokens_before p r.buffers.trees) children q)

-- ---------------------------------------------------------------- a cell's rows

-- the rows of a DtExpr that holds a tree
cell_rows : (e : Expr) (t : Token) (ts : List Token) → seen t ≡ K.LParen
    → place (cell e) (t ∷ ts) ≡ subtree N.DtExpr (place (one ⧺ (expr_nodes e ⧺ one)) (t ∷ ts)) nil
unfolding place after lead ◌⊕◌
cell_rows e t ts k =
    rw (bracket_solid t k)

-- ---------------------------------------------------------------- what an accepted call leaves

module _ (setting : ℕ) (e : Entry) (bytes : List ℕ) (ts : List Token) (l : Buffers) (clear : NoneExceeded (pushes (run_entry e ts))) where
  abbrev all : List Push
  all = pushes (run_entry e ts)

  abbrev tree : Tree
  tree = root (root_kind e) (run_entry e ts) ts

  -- the Names that the setting reports
  abbrev names : List NameAt
  names = names_of setting e bytes ts

  abbrev r : Result
  r = kept (sheets e ts (run_entry e ts) names) l

  trees_count : r.answer.tree_count ≡ row_count tree
  unfolding sheets
  trees_count = div-eq_of_eq-mul_right (omega arith) (rows_length tree 0 0)

  -- the rows of the run's reports, and those of the Names
  abbrev run_rows : List ℕ
  run_rows = report_numbers (length ts) (byte_count ts) 0 (reports all)

  abbrev name_rows : List ℕ
  name_rows = name_numbers (length (pool (reports all))) names

  reports_count : r.answer.report_count ≡ length (reports all) + length names
  unfolding sheets
  reports_count =
      div-eq_of_eq-mul_right (omega arith)
      (length-append run_rows name_rows
      ∙ omega (arith, report_numbers_length (length ts) (byte_count ts) 0 (reports all), name_numbers_length (length (pool (reports all))) names))

  -- the Names' rows follow, and then zeros
  abbrev after_run : List ℕ
  after_run = name_rows ++ replicate (length l.reports - length (run_rows ++ name_rows)) 0

  row_mark : (q : ℕ) → mark_in q r.buffers.reports ≡ mark_in q (run_rows ++ after_run)
  unfolding sheets
  row_mark q = ap (mark_in q) (append_assoc run_rows name_rows _)

  -- report row q is a report's, or a Name's
  abbrev ByReport : ℕ → Type 0
  ByReport q = (rep : Report) × Reported rep all × (mark_in q r.buffers.reports ≡ length ts - rep.mark)

  abbrev ByName : ℕ → Type 0
  ByName q = (n : NameAt) × Among n names × (mark_in q r.buffers.reports ≡ n.first_token)

  row_report : (q : ℕ) → q < r.answer.report_count → ByReport q ⊎ ByName q
  row_report q h = go (ltb q (length (reports all))) refl
    where
      go : (b : Bool) → ltb q (length (reports all)) ≡ b → ByReport q ⊎ ByName q
      go true f =
          let g = nth_there q (reports all) (ltb-true q (length (reports all)) f) in
          inl (g.0, nth_reported q all g.1, row_mark q ∙ nth_mark (length ts) (byte_count ts) 0 q (reports all) after_run g.1)
      go false f =
          let k = q - length (reports all) in
          let e : q ≡ length (reports all) + k = omega (arith, ltb-false q (length (reports all)) f) in
          let g = name_mark (length (pool (reports all))) k names (replicate (length l.reports - length (run_rows ++ name_rows)) 0) (omega (arith, reports_count)) in
          inr (g.0, g.1, row_mark q ∙ ap (λ (j : ℕ). mark_in j (run_rows ++ after_run)) e ∙ mark_past (length ts) (byte_count ts) 0 k (reports all) after_run ∙ g.2)

  -- and each report has a row
  report_row : (rep : Report) → Reported rep all → (q : ℕ) × (q < r.answer.report_count) × (mark_in q r.buffers.reports ≡ length ts - rep.mark)
  report_row rep h =
      let g = reported_nth all h in
      (g.0, omega (arith, reports_count, nth_less g.0 (reports all) g.1), row_mark g.0 ∙ nth_mark (length ts) (byte_count ts) 0 g.0 (reports all) _ g.1)

  -- what holds of each DtExpr: it is settled, and the Names stand apart
  abbrev Fact : List Token → Tree → Type 0
  Fact us c = Settled all us c × Apart names (length ts) us c

  found : (p : ℕ) → DtExprAt p r → Found Fact ts 0 p r.buffers.trees
  unfolding sheets
  found p d =
      find Fact tree 0 0 (replicate (length l.trees - length (rows tree)) 0) ts p
      (each_both (Settled all) (Apart names (length ts)) tree ts (entry_settled e ts clear) (reported_apart setting bytes tree ts (lossless e ts)))
      (omega (arith, trees_count, d.written)) (d.width, d.count, d.parent, d.row)

  -- a buffer's first row is row 0
  at_row : (p : ℕ) (f : Found Fact ts 0 p r.buffers.trees)
      → drop (TREE_ROW * p) r.buffers.trees ≡ rows_under f.parent p (subtree N.DtExpr f.children nil) ++ f.more
  at_row p f =
      let z : 0 + p ≡ p = omega arith in
      f.rows_are ∙ ap (λ (n : ℕ). rows_under f.parent n (subtree N.DtExpr f.children nil) ++ f.more) z

  -- ---------------------------------------------------------------- it starts a cell

  starts : (p : ℕ) → DtExprAt p r → StartsCell ts p r
  unfolding rows_under byte_count
  starts p d =
      let f = found p d in
      let s = f.fact.0 in
      let l = r.buffers.trees in
      let next : drop (TREE_ROW * suc p) l ≡ drop TREE_ROW (drop (TREE_ROW * p) l) =
      ap (λ (n : ℕ). drop n l) (let z : TREE_ROW * suc p ≡ TREE_ROW * p + TREE_ROW = omega arith in z) ∙ sym (drop-drop TREE_ROW (TREE_ROW * p) l) in
      let there : drop TREE_ROW (drop (TREE_ROW * p) l) ≡ rows_under p (suc p) f.children ++ f.more =
      ap (drop TREE_ROW) (at_row p f) ∙ rw (append-nil (rows_under p (suc p) f.children)) in
      record {
        width = byte_count (s.bracket ∷ []);
        row = ap (take TREE_ROW) (next ∙ there ∙ ap (λ (c : Tree). rows_under p (suc p) c ++ f.more) s.begins);
        bracket = s.bracket;
        after = s.beyond;
        token_is = s.starts;
        kind_is = kind_of s.bracket K.LParen s.is_bracket (λ z. omega arith);
      }

  -- --------------------------------------------------------------- it has a partner, or a report says that it has none

  tells : (k : ℕ) (u beyond : List Token) (c : Tree) → length ts ≡ k + suc (length beyond) → length u ≡ suc (length beyond)
      → Partner beyond ⊎ ((end : ℕ) × (length u ≤ end + length (leaves c)) × HeardInside all beyond end) → Partner beyond ⊎ ((q : ℕ) × Tells r k c q)
  tells k u beyond c e f (inl p) = inl p
  tells k u beyond c e f (inr h) =
      let w = h.2 in
      let g = report_row w.rep w.among in
      inr (g.0, record { written = g.1; above = omega (arith, e, g.2, w.low); at_most = omega (arith, e, f, g.2, h.1, w.high) })

  answers : (p : ℕ) → DtExprAt p r → Answered ts p r
  answers p d =
      let f = found p d in
      let s = f.fact.0 in
      let k = tokens_before p r.buffers.trees in
      let total : length ts ≡ k + suc (length s.beyond) = omega (arith, ap length s.starts, length-drop k ts) in
      record {
        bracket = s.bracket;
        beyond = s.beyond;
        starts = s.starts;
        is_bracket = s.is_bracket;
        children = f.children;
        parent = f.parent;
        more = f.more;
        rows_are = at_row p f;
        paired = tells k (drop k ts) s.beyond f.children total (ap length s.starts) s.paired;
      }

  -- ---------------------------------------------------------------- it is judged

  module _ (b : Brackets ts) where
    abbrev from_opening : List Token
    from_opening = b.opening ∷ (b.inner ++ (b.closing ∷ b.after))

    -- marks counted from the end, and from the start
    total : length ts ≡ length b.before + suc (length b.inner + suc (length b.after))
    total = ap length b.tokens_are ∙ simp length-append

    after_length : (beyond : List Token) → beyond ≡ b.inner ++ (b.closing ∷ b.after) → length beyond ≡ length b.inner + suc (length b.after)
    after_length beyond e = ap length e ∙ simp length-append

    -- the first token of no Name that the setting reports is after the LParen and up to the RParen
    abbrev NamesOutside : Type 0
    NamesOutside = (n : NameAt) → Among n names → opening_index ts b < n.first_token → n.first_token ≤ closing_index ts b → ⊥

    -- no report row between the brackets
    none_between : (beyond : List Token) → beyond ≡ b.inner ++ (b.closing ∷ b.after)
        → ((rep : Report) → Reported rep all → length (b.closing ∷ b.after) ≤ rep.mark → rep.mark ≤ length beyond → ⊥) → NamesOutside → (q : ℕ) → Between ts b r q → ⊥
    none_between beyond e h o q x =
        ⊎_elim
        (λ g. h g.0 g.1 (omega (arith, total, g.2, x.above, x.at_most)) (omega (arith, total, after_length beyond e, g.2, x.above, x.at_most)))
        (λ g. o g.0 g.1 (omega (arith, g.2, x.above)) (omega (arith, g.2, x.at_most)))
        (row_report q x.written)

    some_between : (beyond : List Token) → beyond ≡ b.inner ++ (b.closing ∷ b.after) → (rep : Report) → Reported rep all
        → length (b.closing ∷ b.after) ≤ rep.mark → rep.mark ≤ length beyond → (q : ℕ) × Between ts b r q
    some_between beyond e rep h low high =
        let g = report_row rep h in (
          g.0,
          record {
            written = g.1;
            above = omega (arith, total, after_length beyond e, g.2);
            at_most = omega (arith, total, after_length beyond e, g.2);
          },
        )

    module _ (p : ℕ) (d : DtExprAt p r) (index : opening_index ts b ≡ tokens_before p r.buffers.trees) where
      -- the tokens from the DtExpr on are those from the opening bracket on
      tokens_are : drop (tokens_before p r.buffers.trees) ts ≡ from_opening
      tokens_are = ap (λ (n : ℕ). drop n ts) (sym index) ∙ ap (drop (length b.before)) b.tokens_are ∙ drop-append_seam b.before from_opening

      after_is : (found p d).fact.0.beyond ≡ b.inner ++ (b.closing ∷ b.after)
      after_is = let x = (found p d).fact.0.starts in let y = tokens_are in cc

      holds : (f : Expr) → (found p d).children ≡ place (one ⧺ (expr_nodes f ⧺ one)) (drop (tokens_before p r.buffers.trees) ts) → HoldsTree ts b r p f
      holds f h =
          let c = ap (λ (us : List Token). place (one ⧺ (expr_nodes f ⧺ one)) us) tokens_are in
          let w = cell_rows f b.opening (b.inner ++ (b.closing ∷ b.after)) (seen_of b.opening K.LParen b.opens refl) in
          record {
            parent = (found p d).parent;
            more = (found p d).more;
            rows_are = at_row p (found p d) ∙ ap (λ (x : Tree). rows_under (found p d).parent p x ++ (found p d).more) (ap (λ (y : Tree). subtree N.DtExpr y nil) (h ∙ c) ∙ sym w);
          }

      -- MESSAGE 8 IN NO BRACKETS that C's table gives a tree: no node of the tree judges a Name, and the tree reaches
      -- to the RParen
      names_outside : Clean all b.inner b.closing b.after (found p d).fact.0.beyond (drop (tokens_before p r.buffers.trees) ts) (found p d).children → NamesOutside
      names_outside c n a low high =
          let us = drop (tokens_before p r.buffers.trees) ts in
          let z : length us ≡ suc (length b.inner + suc (length b.after)) = ap length tokens_are ∙ simp length-append in
          (found p d).fact.1
          (λ at byte. ap (judged false at byte) c.holds ∙ none_judged (place (one ⧺ (expr_nodes c.tree ⧺ one)) us) ((bare_between (expr_nodes c.tree) (bare_expr c.tree)).placed us) at byte)
          n a (omega (arith, total)) (omega (arith, total, c.reaches))

      by_verdict : Clean all b.inner b.closing b.after (found p d).fact.0.beyond (drop (tokens_before p r.buffers.trees) ts) (found p d).children
          ⊎ Faulty all b.inner b.closing b.after (found p d).fact.0.beyond → Judged ts b r p
      by_verdict (inl c) =
          record {
            tree = λ f g. (
              none_between (found p d).fact.0.beyond after_is c.silent (names_outside c),
              subst (HoldsTree ts b r p) (unique (symbols false b.inner) c.tree f c.gives g) (holds c.tree c.holds),
            );
            no_tree = λ h. absurd (h c.tree c.gives);
          }
      by_verdict (inr c) =
          record {
            tree = λ f g. absurd (c.no_tree f g);
            no_tree = λ h. some_between (found p d).fact.0.beyond after_is c.rep c.among c.high c.low;
          }

      judges : Judged ts b r p
      judges =
          by_verdict
          ((found p d).fact.0.judged b.inner b.closing b.after after_is (seen_of b.closing K.RParen b.closes refl) b.balanced)

-- ---------------------------------------------------------------- the theorems

-- C'S TABLE
pub c_table : CTable
c_table n setting bytes tokens l h =
    let a = accepted_call n setting bytes tokens l h in
    let o = run_entry a.entry (tokens_of tokens) in
    let c : NoneExceeded (pushes o) = fits_clear (pushes o) _ a.left a.fitted in
    subst
    (λ (r : Result). (p : ℕ) → DtExprAt p r → StartsCell (tokens_of tokens) p r
    × ((b : Brackets (tokens_of tokens)) → opening_index (tokens_of tokens) b ≡ tokens_before p r.buffers.trees → Judged (tokens_of tokens) b r p))
    (sym a.returns)
    (λ p d. (starts setting a.entry bytes (tokens_of tokens) l c p d, λ b i. judges setting a.entry bytes (tokens_of tokens) l c b p d i))

-- EVERY CELL'S LPAREN has a partner, or a report above it
pub answered : (n setting : ℕ) (bytes tokens : List ℕ) (l : Buffers) → (call n setting bytes tokens l).answer.number ≡ 0
    → (p : ℕ) → DtExprAt p (call n setting bytes tokens l) → Answered (tokens_of tokens) p (call n setting bytes tokens l)
answered n setting bytes tokens l h =
    let a = accepted_call n setting bytes tokens l h in
    let o = run_entry a.entry (tokens_of tokens) in
    let c : NoneExceeded (pushes o) = fits_clear (pushes o) _ a.left a.fitted in
    subst (λ (r : Result). (p : ℕ) → DtExprAt p r → Answered (tokens_of tokens) p r) (sym a.returns) (λ p d. answers setting a.entry bytes (tokens_of tokens) l c p d)

-- C'S TABLE GIVES ONE TREE
pub one_tree : OneTree
one_tree = unique
