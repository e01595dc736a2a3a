pub mod LoadScript
