-- What the images of a store start with.
use Rattle.std.specs.Prelude.{List}
use Rattle.image_model.specs.Layout.{Layout}
use Rattle.plain_space.specs.declared.store.PlainStore.{PlainStore}

abbrev pub starts_of : PlainStore → List Layout
starts_of store = store.starts.now
