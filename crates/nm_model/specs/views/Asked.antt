-- Reads and writes, as contracts see the values of the code.
use Rattle.nm_types.specs.declared.access.Access.{Access as Asked}
use Rattle.nm_types.specs.declared.access.Access.TheVariants as asked
use Rattle.nm_model.specs.definitions.Touch.{Access, Read, Write}

-- an access
abbrev pub access_shown : {A : Type 0} → Asked A → Access
access_shown (asked.Read pid addr len) = Read pid addr len
access_shown (asked.Write pid addr bytes) = Write pid addr bytes.items
