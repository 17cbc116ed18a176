-- The numbers and names of errors, as in errno(3).
use Rattle.std.specs.Prelude.{ℕ, List, codes}
use Rattle.nm_types.specs.declared.errno.Errno.{Errno}
use Rattle.nm_types.specs.declared.errno.Errno.TheVariants.{Eperm, Enoent, Esrch, Eio, Enomem, Eacces, Efault, Ebusy, Enodev, Einval}

-- an error's number on Linux
abbrev pub number_of : Errno → ℕ
number_of Eperm = 1
number_of Enoent = 2
number_of Esrch = 3
number_of Eio = 5
number_of Enomem = 12
number_of Eacces = 13
number_of Efault = 14
number_of Ebusy = 16
number_of Enodev = 19
number_of Einval = 22

-- an error's name
abbrev pub name_of : Errno → List ℕ
name_of Eperm = codes "EPERM"
name_of Enoent = codes "ENOENT"
name_of Esrch = codes "ESRCH"
name_of Eio = codes "EIO"
name_of Enomem = codes "ENOMEM"
name_of Eacces = codes "EACCES"
name_of Efault = codes "EFAULT"
name_of Ebusy = codes "EBUSY"
name_of Enodev = codes "ENODEV"
name_of Einval = codes "EINVAL"
