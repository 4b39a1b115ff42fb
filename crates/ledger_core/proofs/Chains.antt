-- How chains grow.
use Rattle.std.proofs.Common.{◌≡◌, ◌<◌, List, [], ◌∷◌, ◌++◌, length, Some, sym, ◌∙◌, ap, subst, arith, append_assoc, append-nil, length-append}
use Rattle.data_model.specs.declared.block.Block.{Block}
use Rattle.keyed.specs.Functions.{Check, Hash}
use Rattle.ledger_core.specs.Refusal.{ValidNext, tip_of}
use Rattle.ledger_core.specs.Chain.{GoesOn, Chain}
use Rattle.ledger_core.proofs.Tips.{tip_of_more}
use Rattle.ledger_core.proofs.Valid.{height_of_next, height_of_initial}

more_later : (hash : Hash) (check : Check) (before later : List Block) (block : Block) → GoesOn hash check before later → ValidNext hash check (before ++ later) block → GoesOn hash check before (later ++ block ∷ [])
more_later hash check before [] block g v = (subst (λ (bs : List Block). ValidNext hash check bs block) (append-nil before) v, tt)
more_later hash check before (b ∷ later) block g v =
    (g.0, more_later hash check (before ++ b ∷ []) later block g.1 (subst (λ (bs : List Block). ValidNext hash check bs block) (sym (append_assoc before (b ∷ []) later)) v))

less_later : (hash : Hash) (check : Check) (before later : List Block) (block : Block) → GoesOn hash check before (later ++ block ∷ []) → GoesOn hash check before later × ValidNext hash check (before ++ later) block
less_later hash check before [] block g = (tt, subst (λ (bs : List Block). ValidNext hash check bs block) (sym (append-nil before)) g.0)
less_later hash check before (b ∷ later) block g =
    let r = less_later hash check (before ++ b ∷ []) later block g.1 in
    ((g.0, r.0), subst (λ (bs : List Block). ValidNext hash check bs block) (append_assoc before (b ∷ []) later) r.1)

pub not_empty : (hash : Hash) (check : Check) (blocks : List Block) → Chain hash check blocks → 0 < length blocks
not_empty hash check [] chain = absurd chain
not_empty hash check (initial ∷ later) chain = omega arith

pub grows : (hash : Hash) (check : Check) (blocks : List Block) (block : Block) → Chain hash check blocks → ValidNext hash check blocks block → Chain hash check (blocks ++ block ∷ [])
grows hash check [] block chain v = absurd chain
grows hash check (initial ∷ later) block chain v = (chain.0, more_later hash check (initial ∷ []) later block chain.1 v)

pub only : (hash : Hash) (check : Check) (blocks : List Block) (block : Block) → 0 < length blocks → Chain hash check (blocks ++ block ∷ []) → Chain hash check blocks × ValidNext hash check blocks block
only hash check [] block h chain = absurd (omega arith)
only hash check (initial ∷ later) block h chain =
    let r = less_later hash check (initial ∷ []) later block chain.1 in
    ((chain.0, r.0), r.1)

-- the height of the last block is the number of blocks
abbrev Counts : List Block → Type 0
Counts blocks = (tip : Block) → tip_of blocks ≡ Some tip → tip.header.height ≡ length blocks

counts_more : (hash : Hash) (check : Check) (blocks : List Block) (block last : Block) → Counts blocks → tip_of blocks ≡ Some last → ValidNext hash check blocks block → Counts (blocks ++ block ∷ [])
counts_more hash check blocks block last counts is_last v tip e =
    let both : Some block ≡ Some tip = sym (tip_of_more blocks block) ∙ e in
    let same : block ≡ tip = cc both in
    let height : tip.header.height ≡ block.header.height = ap (λ (b : Block). b.header.height) (sym same) in
    omega (arith, height, height_of_next hash check blocks block last v is_last, counts last is_last, length-append blocks (block ∷ []))

counts_on : (hash : Hash) (check : Check) (before later : List Block) → Counts before → GoesOn hash check before later → Counts (before ++ later)
counts_on hash check before [] counts g = subst Counts (sym (append-nil before)) counts
counts_on hash check before (b ∷ later) counts g =
    subst Counts (append_assoc before (b ∷ []) later)
    (counts_on hash check (before ++ b ∷ []) later (counts_more hash check before b g.0.tip counts g.0.is_tip g.0) g.1)

pub heights : (hash : Hash) (check : Check) (blocks : List Block) (tip : Block) → Chain hash check blocks → tip_of blocks ≡ Some tip → tip.header.height ≡ length blocks
heights hash check [] tip chain e = absurd chain
heights hash check (initial ∷ later) tip chain e =
    let first : Counts (initial ∷ []) = λ t h.
    let same : initial ≡ t = cc h in
    ap (λ (b : Block). b.header.height) (sym same) ∙ height_of_initial hash initial chain.0 in
    counts_on hash check (initial ∷ []) later first chain.1 tip e
