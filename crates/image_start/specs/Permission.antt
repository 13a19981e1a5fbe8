-- The code's permissions as the model's.
use Rattle.image_model.specs.Permission as model
use Rattle.image_start.specs.declared.permission.Permission.{Permission}

abbrev pub permission_of : Permission → model.Permission
permission_of p = record {
  readable = p.readable;
  writable = p.writable;
  executable = p.executable;
}
