-- A BRACKET WITHOUT A PARTNER. C's table judges the tokens between a cell's LParen and the RParen that balances it;
-- where no RParen does, the call says so in that cell: some report's mark is above the LParen's token index, and at
-- most the index just past the cell's last token. It excludes a parser that takes an open cell in silence, whatever it
-- says of other places.
use Rattle.std.specs.Prelude.{ℕ, ◌+◌, ◌*◌, ◌≤◌, ◌<◌, ◌≡◌, List, drop}
use Rattle.definitions.specs.Layout.{TREE_ROW}
use Rattle.definitions.specs.Token.{Token, tokens_of}
use Rattle.definitions.specs.Call.{Buffers, Result, call}
use Rattle.laws.specs.TreeRows.{Rows, end, leaf, node, read}
use Rattle.precedence.specs.Precedence.{tokens_before, mark_in, DtExprAt, Brackets, opening_index}

-- no RParen balances the LParen of the DtExpr in tree row p
abbrev pub NoPartner : List Token → ℕ → Result → Type 0
NoPartner ts p r = (b : Brackets ts) → opening_index ts b ≡ tokens_before p r.buffers.trees → ⊥

-- how many raw tokens stand in rows side by side: the counts of their leaves
unfoldable pub tokens_in : Rows → ℕ
tokens_in end = 0
tokens_in (leaf k w n f) = n + tokens_in f
tokens_in (node k w n c f) = tokens_in c + tokens_in f

-- how many stand in the first of them
unfoldable pub tokens_first : Rows → ℕ
unfolding tokens_in
tokens_first end = 0
tokens_first (leaf k w n f) = n
tokens_first (node k w n c f) = tokens_in c

-- report row q has its mark above the LParen's token index, which is the number of tokens before the DtExpr, and no
-- further than it reaches
pub record Reported (p : ℕ) (r : Result) (q : ℕ) : Type 0 where
  pub written : q < r.answer.report_count
  pub above : tokens_before p r.buffers.trees < mark_in q r.buffers.reports
  pub at_most : mark_in q r.buffers.reports ≤ tokens_before p r.buffers.trees + tokens_first
      (read (drop (TREE_ROW * p) r.buffers.trees))

-- for every DtExpr of an accepted call, in either setting
abbrev pub PartnerMissed : Type 0
PartnerMissed =
    (n setting : ℕ) (bytes tokens : List ℕ) (l : Buffers) → (call n setting bytes tokens l).answer.number ≡ 0 → (p : ℕ)
    → DtExprAt p (call n setting bytes tokens l)
    → NoPartner (tokens_of tokens) p (call n setting bytes tokens l)
    → (q : ℕ) × Reported p (call n setting bytes tokens l) q
