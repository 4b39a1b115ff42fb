-- What files in memory keep.
use Rattle.std.specs.Prelude.{◌≡◌, ℕ, Bool, true, false, List, refl}
use Rattle.std.specs.Ordering.{nat_cmp}
use Rattle.std.specs.Cmp.Lexicographic.{slice_cmp}
use Rattle.std.specs.FinMap as map
use Rattle.std.specs.Coded.{Coded, code_by, coded×, coded_ℕ, coded_bool, coded_list}
use Rattle.outside.specs.Files.{Read, Write, WriteKind, Append, Replace}

-- contents by name
abbrev pub Contents : Type 0
Contents = map.FinMap (slice_cmp nat_cmp) (List ℕ)

pub record MemFilesState : Type 0 where
  -- what stands in the files
  pub files : Contents
  -- how many calls of read, append and replace were made, together
  pub calls : ℕ
  -- the calls that are to fail, counted from 0
  pub fails : List ℕ
  -- how many bytes of its piece a failing append leaves, where it has as many
  pub keep : ℕ
  -- the reads begun, the oldest first
  pub reads : List Read
  -- the appends and replaces begun, the oldest first
  pub writes : List Write
  -- how many reads have failed
  pub read_faults : ℕ
  -- how many appends and replaces have failed
  pub write_faults : ℕ

-- By these codes a proof tells two states apart: each is stored as the tuple of its parts.
abbrev pub text_code : Coded (List ℕ)
text_code = coded_list coded_ℕ

abbrev pub read_code : Coded Read
read_code =
    code_by (List ℕ × ℕ) (coded× text_code coded_ℕ)
    (λ r. (r.name, r.most))
    (λ p. record { name = p.0; most = p.1 })
    (λ _. refl)

abbrev pub is_append : WriteKind → Bool
is_append Append = true
is_append Replace = false

abbrev pub kind_of : Bool → WriteKind
kind_of true = Append
kind_of false = Replace

pub kind_again : (k : WriteKind) → kind_of (is_append k) ≡ k
kind_again Append = refl
kind_again Replace = refl

abbrev pub kind_code : Coded WriteKind
kind_code = code_by Bool coded_bool is_append kind_of kind_again

abbrev pub write_code : Coded Write
write_code =
    code_by (WriteKind × (List ℕ × (List ℕ × Bool))) (coded× kind_code (coded× text_code (coded× text_code coded_bool)))
    (λ w. (w.kind, (w.name, (w.bytes, w.done))))
    (λ p. record { kind = p.0; name = p.1.0; bytes = p.1.1.0; done = p.1.1.1 })
    (λ _. refl)

abbrev pub state_code : Coded MemFilesState
state_code =
    code_by (Contents × (ℕ × (List ℕ × (ℕ × (List Read × (List Write × (ℕ × ℕ)))))))
    (coded× (map.code text_code text_code)
    (coded× coded_ℕ
    (coded× text_code
    (coded× coded_ℕ (coded× (coded_list read_code) (coded× (coded_list write_code) (coded× coded_ℕ coded_ℕ)))))))
    (λ s. (s.files, (s.calls, (s.fails, (s.keep, (s.reads, (s.writes, (s.read_faults, s.write_faults))))))))
    (λ p. record {
      files = p.0;
      calls = p.1.0;
      fails = p.1.1.0;
      keep = p.1.1.1.0;
      reads = p.1.1.1.1.0;
      writes = p.1.1.1.1.1.0;
      read_faults = p.1.1.1.1.1.1.0;
      write_faults = p.1.1.1.1.1.1.1;
    })
    (λ _. refl)
