-- The reader's answers, with zeroes where the bytes are no record.
-- Assumes nothing.
use Rattle.std.specs.Prelude.{ℕ, true, false, ◌&&◌, List, ltb}
use Rattle.base_lists.specs.Lists.{choose}
use Rattle.record.specs.declared.Header.{Header}
use Rattle.record.specs.Read.{well_formed, header_of, entry_at}
use Rattle.controller.specs.declared.HeaderReading.{HeaderReading}
use Rattle.controller.specs.declared.NodeReading.{NodeReading}

unfoldable pub no_header : Header
no_header = record { kind = 0; message = 0; flags = 0; nodes = 0; peer = 0; second = 0; ttl = 0; size = 0; number = 0 }

-- the header of bytes that are a record
unfoldable pub reading : List ℕ → HeaderReading
reading b = choose (well_formed b) (record { ok = true; header = header_of b }) (record { ok = false; header = no_header })

unfoldable pub no_entry : NodeReading
no_entry = record { ok = false; node = record { id = 0; offset = 0; len = 0; present = 0 } }

-- the i-th node entry of bytes that are a record with so many
unfoldable pub node_reading : List ℕ → ℕ → NodeReading
node_reading b i = choose (well_formed b && ltb i (header_of b).nodes) (record { ok = true; node = entry_at b i }) no_entry
