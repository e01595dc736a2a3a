pub mod SameParts
