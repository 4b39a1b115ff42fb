-- The last block of a list.
use Rattle.std.proofs.Common.{◌≡◌, ◌-◌, ◌<◌, List, [], ◌∷◌, ◌++◌, length, get_or, Some, refl, arith, length-append}
use Rattle.std.specs.Prelude.{slice_get}
use Rattle.std.proofs.lemmas.Option.{slice_get-get_or}
use Rattle.data_model.specs.declared.block.Block.{Block}
use Rattle.ledger_core.specs.Blocks.{tip_of}

-- a list that is not empty has a last block
pub some_tip : (blocks : List Block) (other : Block) → 0 < length blocks → tip_of blocks ≡ Some (get_or blocks (length blocks - 1) other)
some_tip blocks other h = slice_get-get_or blocks (length blocks - 1) other (omega arith)

behind : (blocks : List Block) (block : Block) → slice_get (blocks ++ block ∷ []) (length blocks) ≡ Some block
behind [] block = refl
behind (b ∷ blocks) block = behind blocks block

-- of a list with one block more, that block is the last
pub tip_of_more : (blocks : List Block) (block : Block) → tip_of (blocks ++ block ∷ []) ≡ Some block
tip_of_more blocks block =
    let e : length (blocks ++ block ∷ []) - 1 ≡ length blocks = omega (arith, length-append blocks (block ∷ [])) in
    rw e (behind blocks block)
