use Rattle.std.proofs.Common.{ℕ, List, [], ◌∷◌, ◌++◌, ap, ◌∙◌}
use Rattle.std.specs.List.{flat_map}
use Rattle.tx_check.specs.View.{Unspent}
use Rattle.ledger_core.specs.declared.unfinished.LiveNonce.{LiveNonce}
use Rattle.ledger_core.specs.LedgerModel.{LedgerModel}
use Rattle.ledger_core.specs.Unspent.{left_of, live_at, spent_by}
use Rattle.ledger_core.proofs.Settled.{stands_settled}
use Rattle.ledger_core.proofs.ledger.Ledger.settle.Goals as goal

pub returns-clause-stands : goal.returns-clause-stands
returns-clause-stands c = λ hash check stands valid is changes.
    let time = c.args.block.header.time in
    let spent = flat_map (spent_by hash) c.args.block.txs in
    stands_settled hash check c.args.self.now c.args.block _ stands valid c.requires.within (record {
      blocks = c.in_ok-push.ensures.ok ∙ ap (λ (held : LedgerModel). held.blocks ++ c.args.block ∷ []) c.self.view_is;
      tip_id = is;
      initial = ap (λ (held : LedgerModel). held.initial) c.self.view_is;
      empty_root = ap (λ (held : LedgerModel). held.empty_root) c.self.view_is;
      unspent = c.in_ok-append.ensures.items
          ∙ ap (λ (outputs : List Unspent). outputs ++ c.args.changes.made.items)
          (c.keep_unspent.ensures.items
          ∙ ap (λ (ids : List (List ℕ)). left_of ids c.reserve.new.self.items) (c.as_slice.ensures.value ∙ changes.spent)
          ∙ ap (λ (outputs : List Unspent). left_of spent outputs) (c.in_ok-reserve.ensures.items ∙ ap (λ (held : LedgerModel). held.unspent) c.self.view_is))
          ∙ ap (λ (outputs : List Unspent). left_of spent c.args.self.now.unspent ++ outputs) changes.made;
      live = c.keep_live.ensures
          ∙ ap (λ (nonces : List LiveNonce). live_at time nonces)
          (c.in_ok-append-2.ensures.items
          ∙ ap (λ (nonces : List LiveNonce). nonces ++ c.args.changes.used.items) (c.in_ok-reserve-2.ensures.items ∙ ap (λ (held : LedgerModel). held.live) c.self.view_is)
          ∙ ap (λ (nonces : List LiveNonce). c.args.self.now.live ++ nonces) changes.used_are);
    })
