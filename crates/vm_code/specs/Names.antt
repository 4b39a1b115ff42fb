-- The names of the code table.
use Rattle.std.specs.Prelude.{ℕ, ◌==◌, List, [], ◌∷◌, Option, codes, option_map, bytes_eq, unwrap_or}
use Rattle.std.specs.List.{find}

-- each code but 01 to 4b, which are the number of bytes that they push, and its name
unfoldable pub names : List (ℕ × List ℕ)
names =
    (0x00, codes "FALSE") ∷ (0x4c, codes "PUSHDATA1") ∷ (0x4d, codes "PUSHDATA2") ∷ (0x4e, codes "PUSHDATA4")
    ∷ (0x4f, codes "1NEGATE") ∷ (0x51, codes "1") ∷ (0x52, codes "2") ∷ (0x53, codes "3") ∷ (0x54, codes "4")
    ∷ (0x55, codes "5") ∷ (0x56, codes "6") ∷ (0x57, codes "7") ∷ (0x58, codes "8") ∷ (0x59, codes "9")
    ∷ (0x5a, codes "10") ∷ (0x5b, codes "11") ∷ (0x5c, codes "12") ∷ (0x5d, codes "13") ∷ (0x5e, codes "14")
    ∷ (0x5f, codes "15") ∷ (0x60, codes "16") ∷ (0x61, codes "NOP") ∷ (0x63, codes "JUMP") ∷ (0x64, codes "JUMPIF")
    ∷ (0x69, codes "VERIFY") ∷ (0x6a, codes "FAIL") ∷ (0x6b, codes "TOALTSTACK") ∷ (0x6c, codes "FROMALTSTACK")
    ∷ (0x6d, codes "2DROP") ∷ (0x6e, codes "2DUP") ∷ (0x6f, codes "3DUP") ∷ (0x70, codes "2OVER")
    ∷ (0x71, codes "2ROT") ∷ (0x72, codes "2SWAP") ∷ (0x73, codes "IFDUP") ∷ (0x74, codes "DEPTH")
    ∷ (0x75, codes "DROP") ∷ (0x76, codes "DUP") ∷ (0x77, codes "NIP") ∷ (0x78, codes "OVER") ∷ (0x79, codes "PICK")
    ∷ (0x7a, codes "ROLL") ∷ (0x7b, codes "ROT") ∷ (0x7c, codes "SWAP") ∷ (0x7d, codes "TUCK") ∷ (0x7e, codes "CAT")
    ∷ (0x7f, codes "SUBSTR") ∷ (0x80, codes "LEFT") ∷ (0x81, codes "RIGHT") ∷ (0x82, codes "SIZE")
    ∷ (0x83, codes "INVERT") ∷ (0x84, codes "AND") ∷ (0x85, codes "OR") ∷ (0x86, codes "XOR") ∷ (0x87, codes "EQUAL")
    ∷ (0x88, codes "EQUALVERIFY") ∷ (0x89, codes "CATPUSHDATA") ∷ (0x8b, codes "1ADD") ∷ (0x8c, codes "1SUB")
    ∷ (0x8d, codes "2MUL") ∷ (0x8e, codes "2DIV") ∷ (0x8f, codes "NEGATE") ∷ (0x90, codes "ABS")
    ∷ (0x91, codes "NOT") ∷ (0x92, codes "0NOTEQUAL") ∷ (0x93, codes "ADD") ∷ (0x94, codes "SUB")
    ∷ (0x95, codes "MUL") ∷ (0x96, codes "DIV") ∷ (0x97, codes "MOD") ∷ (0x98, codes "LSHIFT")
    ∷ (0x99, codes "RSHIFT") ∷ (0x9a, codes "BOOLAND") ∷ (0x9b, codes "BOOLOR") ∷ (0x9c, codes "NUMEQUAL")
    ∷ (0x9d, codes "NUMEQUALVERIFY") ∷ (0x9e, codes "NUMNOTEQUAL") ∷ (0x9f, codes "LESSTHAN")
    ∷ (0xa0, codes "GREATERTHAN") ∷ (0xa1, codes "LESSTHANOREQUAL") ∷ (0xa2, codes "GREATERTHANOREQUAL")
    ∷ (0xa3, codes "MIN") ∷ (0xa4, codes "MAX") ∷ (0xa5, codes "WITHIN") ∷ (0xa8, codes "SHA256")
    ∷ (0xac, codes "CHECKSIG") ∷ (0xad, codes "CHECKMULTISIG") ∷ (0xae, codes "TXSIGHASH")
    ∷ (0xaf, codes "BLOCKHASH") ∷ (0xc0, codes "CHECKPREDICATE") ∷ (0xc1, codes "CHECKOUTPUT")
    ∷ (0xc2, codes "ASSET") ∷ (0xc3, codes "AMOUNT") ∷ (0xc4, codes "PROGRAM") ∷ (0xc5, codes "MINTIME")
    ∷ (0xc6, codes "MAXTIME") ∷ (0xc7, codes "TXDATA") ∷ (0xc8, codes "ENTRYDATA") ∷ (0xc9, codes "INDEX")
    ∷ (0xca, codes "ENTRYID") ∷ (0xcb, codes "OUTPUTID") ∷ (0xcd, codes "NEXTPROGRAM")
    ∷ (0xce, codes "BLOCKTIME") ∷ []

-- the name of a code in a table, and of one without a name the empty text
abbrev pub name_in : List (ℕ × List ℕ) → ℕ → List ℕ
name_in lines code = unwrap_or (option_map (λ line. line.1) (find (λ line. line.0 == code) lines)) []

-- the code of a name
abbrev pub code_in : List (ℕ × List ℕ) → List ℕ → Option ℕ
code_in lines name = option_map (λ line. line.0) (find (λ line. bytes_eq line.1 name) lines)

unfoldable pub name_of : ℕ → List ℕ
name_of code = name_in names code

unfoldable pub code_of : List ℕ → Option ℕ
code_of name = code_in names name
